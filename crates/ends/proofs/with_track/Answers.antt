-- `with_track`: a track whose end is covered changes only the count of parts, and no count of starts.
use mathlib.Core.Path.{sym, ◌∙◌}
use native.Mathlib.Omega.{arith}
use Rattle.track_events.specs.Track.{events_of}
use Rattle.ends.specs.Pass.{track_end}
use Rattle.ends.proofs.PartEnds.{words_end, taken_covered, taken_none}
use Rattle.ends.proofs.with_track.Goals as goal

pub covered-requires : goal.covered-requires
covered-requires c = c.requires.2

pub overflow_add-result : goal.overflow_add-result
overflow_add-result c =
    omega (arith, c.requires.1)

pub returns-then-has_notes : goal.returns-then-has_notes
returns-then-has_notes c =
    let es = events_of c.args.deltas.now c.args.words.now in
    let notes = sym (words_end c.requires.2) ∙ sym c.has_notes.ensures ∙ c.if-has_notes.true in
    record { taken = taken_covered _ (track_end es) notes (c.covered.ensures c.if-covered.true); cleared = c.requires.0 }

pub returns-then-covered : goal.returns-then-covered
returns-then-covered c =
    let es = events_of c.args.deltas.now c.args.words.now in
    let none = sym (words_end c.requires.2) ∙ sym c.has_notes.ensures ∙ c.if-has_notes.false in
    record { taken = taken_none _ (track_end es) none; cleared = c.requires.0 }

pub end_of_track-requires : goal.end_of_track-requires
end_of_track-requires c = let given = c.requires in (given.0, given.2)

pub taken-requires : goal.taken-requires
taken-requires c = c.requires.1

pub returns : goal.returns
returns c = let done = c.end_of_track.ensures in record { taken = rw (sym done.end) c.taken.ensures; cleared = done.cleared }
