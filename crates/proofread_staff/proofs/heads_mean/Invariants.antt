-- `heads_mean` tests head after head. The loop's invariant: the test of the heads from i on is the test of all.
use mathlib.Core.Path.{◌≡◌}
use lib.ListN.{drop}
use Rattle.proofread_staff.specs.Staffs.{heads_mean?}
use Rattle.proofread_staff.proofs.heads_mean.Given as goal

abbrev pub invariant-loop-head : goal.invariant-loop-head
invariant-loop-head l = heads_mean? (drop l.head-index l.heads) ≡ heads_mean? l.heads
