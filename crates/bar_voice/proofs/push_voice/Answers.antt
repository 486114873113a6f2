-- `push_voice`: each way out rewrites the definition by its tests.
use mathlib.Core.Bool.{true, ◌||◌}
use mathlib.Core.Path.{◌≡◌, refl, sym, ◌∙◌}
use lib.Dec.{eqb}
use borrow.Author.Tests.{eq-eqb, ne_eqb}
use Rattle.rules.specs.Lists.{any}
use Rattle.rules.specs.Staff.{sounds_in}
use Rattle.items.proofs.Appending.{items_none}
use Rattle.bar_voice.specs.Voices.{voice_of}
use Rattle.bar_voice.proofs.VoiceWalk.{voice_length}
use Rattle.bar_voice.proofs.Sounding.{sounding_any}
use Rattle.bar_voice.proofs.push_voice.Goals.{then-v-eq0-via-then-v-eq0, then-v-eq0-via-else-v-eq0+then-sounds}
use Rattle.bar_voice.proofs.push_voice.Goals as goal

pub push_filled-requires : goal.push_filled-requires
push_filled-requires c =
    let pre = c.requires in
    -- the voice is written: it is voice 0, or it sounds
    let written : (eqb c.args.v 0 || any (sounds_in c.args.bar.start c.args.bar.end) (voice_of c.args.n c.args.work.now c.args.v c.args.len)) ≡ true =
    elim c.then-v-eq0.branch [
      | then-v-eq0-via-then-v-eq0 w ↦ rw (eq-eqb _ _ w.if-v-eq0.true)
      | then-v-eq0-via-else-v-eq0+then-sounds w ↦
          rw (ne_eqb _ _ w.if-v-eq0.false)
          (sounding_any c.requires.2 c.requires.1.line c.requires.3
          ∙ rw (voice_length c.args.n c.args.work.now c.args.v c.args.len) (sym w.sounds.ensures ∙ w.if-sounds.true))
    ] in
    (pre.0, pre.1, pre.2, pre.3, rw written at pre.4)

pub returns-then-v-eq0 : goal.returns-then-v-eq0
returns-then-v-eq0 c =
    -- the voice is written: it is voice 0, or it sounds
    let written : (eqb c.args.v 0 || any (sounds_in c.args.bar.start c.args.bar.end) (voice_of c.args.n c.args.work.now c.args.v c.args.len)) ≡ true =
    elim c.then-v-eq0.branch [
      | then-v-eq0-via-then-v-eq0 w ↦ rw (eq-eqb _ _ w.if-v-eq0.true)
      | then-v-eq0-via-else-v-eq0+then-sounds w ↦
          rw (ne_eqb _ _ w.if-v-eq0.false)
          (sounding_any c.requires.2 c.requires.1.line c.requires.3
          ∙ rw (voice_length c.args.n c.args.work.now c.args.v c.args.len) (sym w.sounds.ensures ∙ w.if-sounds.true))
    ] in
    rw written c.push_filled.ensures

pub returns : goal.returns
returns c =
    -- what the test says of voices 1 to 3
    let sounding : any (sounds_in c.args.bar.start c.args.bar.end) (voice_of c.args.n c.args.work.now c.args.v c.args.len) ≡ c.sounds.result =
    sounding_any c.requires.2 c.requires.1.line c.requires.3 ∙ rw (voice_length c.args.n c.args.work.now c.args.v c.args.len) (sym c.sounds.ensures) in
    rw (ne_eqb _ _ c.if-v-eq0.false, sounding ∙ c.if-sounds.false) (record { items = items_none _ _ _ _; left = refl })
