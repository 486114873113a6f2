-- `quiet_end` goes back from the end. The invariant: no note starts from event i on.
use Prim.Native.Nat.{◌≤◌}
use mathlib.Core.Bool.{false}
use mathlib.Core.Path.{◌≡◌}
use lib.ListN.{length, drop}
use Rattle.rules.specs.Lists.{any}
use Rattle.rules.specs.Piece.{is_on}
use Rattle.ends.proofs.quiet_end.Given as goal

abbrev pub invariant-loop-i : goal.invariant-loop-i
invariant-loop-i l = (l.i ≤ length l.deltas) × (any is_on (drop l.i l.words) ≡ false)
