-- `skip` passes the notes that start earlier. The loop's invariant: the first i notes start before the tick.
use Rattle.proofread_notes.specs.Columns.{Before}
use Rattle.proofread_notes.proofs.skip.Given as goal

abbrev pub invariant-loop-i : goal.invariant-loop-i
invariant-loop-i l = Before l.g l.n l.work l.i l.start
