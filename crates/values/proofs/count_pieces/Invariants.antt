-- `count_pieces` counts by division. The invariant: the pieces counted, and those that the entries from i on give for the ticks left, are all.
use Rattle.values.proofs.Entries.{Counted}
use Rattle.values.proofs.count_pieces.Given as goal

abbrev pub invariant-loop-i : goal.invariant-loop-i
invariant-loop-i l = Counted l.values l.ticks l.pieces l.left l.i
