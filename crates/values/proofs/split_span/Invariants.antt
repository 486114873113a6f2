-- `split_span` writes the pieces. The invariant: those written, and those that the entries from i on give for the ticks left, are all.
use Prim.Native.Nat.{◌+◌, ◌-◌}
use Rattle.values.proofs.Spreading.{Spreading}
use Rattle.values.proofs.split_span.Given as goal

abbrev pub invariant-loop-i : goal.invariant-loop-i
invariant-loop-i l = Spreading l.values l.ticks l.from l.bits l.initial.out l.out l.left l.at l.i

abbrev pub decreases-loop-i : goal.decreases-loop-i
decreases-loop-i l = l.left + (18 - l.i)
