-- `sounds`: each way out rewrites the definition by its test.
use mathlib.Core.Path.{sym, ap, ◌∙◌}
use borrow.Author.Tests.{lt-ltb, le-ltb}
use Rattle.rules.specs.Voices.{Chord}
use Rattle.bar_voice.proofs.VoiceWalk.{voice_get, can_read}
use Rattle.bar_voice.proofs.sounds.Goals as goal

pub returns-then-len-next : goal.returns-then-len-next
returns-then-len-next c = rw (le-ltb _ _ c.if-len-next.true)

pub voice_chord-c-requires : goal.voice_chord-c-requires
voice_chord-c-requires c = can_read c.requires _ c.if-len-next.false

pub returns : goal.returns
returns c =
    let given = c.args in
    let read = ap (λ (d : Chord). d.start)
    (c.voice_chord-c.ensures
    ∙ sym (voice_get given.n given.work.now given.v given.len given.next c.if-len-next.false)) in
    rw (lt-ltb _ _ c.if-len-next.false, ← read)
