-- `fetch_notes` fetches the notes by their places. The invariant: the first i are fetched, and all from column 2 on is as it was.
use Rattle.chords.proofs.Sorting.{Fetching}
use Rattle.chords.proofs.fetch_notes.Given as goal

abbrev pub invariant-loop-i : goal.invariant-loop-i
invariant-loop-i l = Fetching l.n l.count l.i l.initial.work l.work
