-- `total` sums the counts. The invariant: the sum so far and the sum of what is left make the whole, and the sum so far fits.
use Prim.Native.Nat.{◌+◌, ◌*◌, ◌≤◌}
use mathlib.Core.Path.{◌≡◌}
use lib.ListN.{drop}
use Rattle.rules.specs.Lists.{sum}
use Rattle.admission.proofs.total.Given as goal

abbrev pub invariant-loop-count : goal.invariant-loop-count
invariant-loop-count l = (l.n + sum (drop l.count-index l.counts) ≡ sum l.counts) × (l.n ≤ 4294967295 * l.count-index)
