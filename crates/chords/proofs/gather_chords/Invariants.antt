-- `gather_chords` gathers the notes to chords. The invariant: the chords so far, read from the last one down, are those of the first k notes.
-- The search's: no chord from place i on joins the note.
use Rattle.chords.specs.Columns.{note_of}
use Rattle.chords.proofs.Gathering.{Searching, Gathering}
use Rattle.chords.proofs.gather_chords.Given as goal

abbrev pub invariant-loop-k : goal.invariant-loop-k
invariant-loop-k l = Gathering l.n l.count l.chords l.k l.initial.work l.work

abbrev pub invariant-loop-i : goal.invariant-loop-i
invariant-loop-i l = Searching l.n l.chords l.i (note_of l.note) l.work
