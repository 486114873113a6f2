-- `take_changes` settles the bar. The loop's invariant: the first `at` events are taken, and the walker is at the same bar.
use Prim.Native.Nat.{◌-◌}
use lib.ListN.{length}
use Rattle.bar_walk.specs.Walk.{Ready, SameBar}
use Rattle.bar_walk.proofs.Walker.take_changes.Given as goal

abbrev pub invariant-loop-w : goal.invariant-loop-w
invariant-loop-w l = Ready l.deltas l.words l.w × SameBar l.initial.w l.w

abbrev pub decreases-loop-w : goal.decreases-loop-w
decreases-loop-w l = length l.deltas - l.w.at
