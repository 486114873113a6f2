-- `snap_words` snaps the notes word by word. The invariant: the first i are snapped to columns 4 and 5, and all notes stand as they did.
use Rattle.chords.proofs.Sorting.{Snapping}
use Rattle.chords.proofs.snap_words.Given as goal

abbrev pub invariant-loop-i : goal.invariant-loop-i
invariant-loop-i l = Snapping l.n l.count l.g l.i l.initial.work l.work
