-- `place_chord` places the chord as the rules do, in each of the three ways.
use mathlib.Core.Path.{◌≡◌, sym, ap, ◌∙◌}
use native.Mathlib.Omega.{arith}
use Rattle.rules.specs.Voices.{Chord, free, together, cut, choose}
use Rattle.chords.specs.Columns.{chord_at, chord_of}
use Rattle.voices.specs.Placing.{lasts_of, as_choice, voices_at}
use Rattle.voices.proofs.Ways.{Filled, free_place, together_place, cut_place, placed_free, placed_together, placed_cut}
use Rattle.voices.proofs.place_chord.Goals.{In-Free, In-Together, In-Cut}
use Rattle.voices.proofs.place_chord.Goals as goal

-- the rules choose the same
is_free : (c : In-Free) → free c.in-Free.v ≡ choose (chord_at c.args.n c.args.work.now c.args.k) (voices_at c.args.n c.args.work.now c.args.lens.now)
is_free c =
    sym (ap as_choice c.in-Free.is)
    ∙ c.choose.ensures _ _ _ (ap (λ (x : Chord). x.start) (sym c.chord_at-c.ensures)) c.requires.known

is_together : (c : In-Together)
    → together c.in-Together.v ≡ choose (chord_at c.args.n c.args.work.now c.args.k) (voices_at c.args.n c.args.work.now c.args.lens.now)
is_together c =
    sym (ap as_choice c.in-Together.is)
    ∙ c.choose.ensures _ _ _ (ap (λ (x : Chord). x.start) (sym c.chord_at-c.ensures)) c.requires.known

is_cut : (c : In-Cut) → cut c.in-Cut.v ≡ choose (chord_at c.args.n c.args.work.now c.args.k) (voices_at c.args.n c.args.work.now c.args.lens.now)
is_cut c =
    sym (ap as_choice c.in-Cut.is)
    ∙ c.choose.ensures _ _ _ (ap (λ (x : Chord). x.start) (sym c.chord_at-c.ensures)) c.requires.known

-- the voice that takes keys, or is cut, has a chord
takes_keys : (c : In-Together) → Filled c.args.n c.in-Together.v c.args.lens.now c.args.work.now
takes_keys c = together_place c.requires (is_together c)

is_squeezed : (c : In-Cut) → Filled c.args.n c.in-Cut.v c.args.lens.now c.args.work.now
is_squeezed c = cut_place c.requires (is_cut c)

pub push-requires : goal.push-requires
push-requires c =
    let room = free_place c.requires (is_free (goal.at.push-requires c).In-Free) in
    (room.0, c.requires.cells.area, room.1)

pub last_of-i-requires : goal.last_of-i-requires
last_of-i-requires c =
    let f = takes_keys (goal.at.last_of-i-requires c).In-Together in
    (f.voice, c.requires.cells.area, f.some, omega arith)

pub give_keys-requires : goal.give_keys-requires
give_keys-requires c = (c.requires.cells.area, rw c.last_of-i.ensures (takes_keys (goal.at.give_keys-requires c).In-Together).last)

pub last_of-i-requires-in-Cut : goal.last_of-i-requires-in-Cut
last_of-i-requires-in-Cut c =
    let f = is_squeezed (goal.at.last_of-i-requires-in-Cut c).In-Cut in
    (f.voice, c.requires.cells.area, f.some, omega arith)

pub cut_chord-requires : goal.cut_chord-requires
cut_chord-requires c = (c.requires.cells.area, rw c.last_of-i-in-Cut.ensures (is_squeezed (goal.at.cut_chord-requires c).In-Cut).last)

pub push-requires-in-Cut : goal.push-requires-in-Cut
push-requires-in-Cut c =
    let f = is_squeezed (goal.at.push-requires-in-Cut c).In-Cut in
    (f.voice, rw c.cut_chord.ensures.kept c.requires.cells.area, f.few)

pub returns-in-Free : goal.returns-in-Free
returns-in-Free c =
    let read = c.chord_at-c in
    placed_free c.requires (chord_of read.result) {r = lasts_of _ _ _} read.ensures (is_free (goal.at.returns-in-Free c).In-Free) c.push.ensures

pub returns-in-Together : goal.returns-in-Together
returns-in-Together c =
    let read = c.chord_at-c in
    placed_together c.requires (chord_of read.result) read.ensures c.last_of-i.ensures
    (is_together (goal.at.returns-in-Together c).In-Together) c.give_keys.ensures

pub returns-in-Cut : goal.returns-in-Cut
returns-in-Cut c =
    let read = c.chord_at-c in
    placed_cut c.requires (chord_of read.result) {r = lasts_of _ _ _} read.ensures c.last_of-i-in-Cut.ensures
    (is_cut (goal.at.returns-in-Cut c).In-Cut) c.cut_chord.ensures c.push-in-Cut.ensures
