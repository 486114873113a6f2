-- `first_bad_event` answers 4 or 5. The invariant: the first bad event from event i on is the first bad event of all.
use Prim.Native.Nat.{◌-◌, ◌≤◌}
use mathlib.Core.Path.{◌≡◌}
use lib.ListN.{length}
use Rattle.admission.specs.Bad.{bad}
use Rattle.admission.proofs.first_bad_event.Given as goal

abbrev pub invariant-loop-i : goal.invariant-loop-i
invariant-loop-i l = (l.i ≤ length l.deltas) × (bad l.deltas l.words l.i ≡ bad l.deltas l.words 0)

abbrev pub decreases-loop-i : goal.decreases-loop-i
decreases-loop-i l = length l.deltas - l.i
