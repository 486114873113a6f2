-- `sum_counts` adds count after count. The loop's invariant: the total is the sum of the first i.
use Prim.Native.Nat.{◌*◌, ◌≤◌}
use mathlib.Core.Path.{◌≡◌}
use lib.ListN.{take, drop}
use Rattle.rules.specs.Lists.{sum}
use Rattle.proofread_voices.proofs.sum_counts.Given as goal

abbrev pub invariant-loop-i : goal.invariant-loop-i
invariant-loop-i l = (l.total ≡ sum (take l.i (drop l.from l.counts))) × (l.total ≤ l.i * 4294967295)
