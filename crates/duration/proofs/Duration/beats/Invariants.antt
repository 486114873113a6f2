-- `Duration::beats` meets its contract. The loop's invariant: whatever number of 256ths the base is, the total and the dot to come
-- are those of `Summed` at the dots so far. Assumes nothing.
use Prim.Native.Nat.{ℕ, ◌-◌, ◌≤◌}
use Rattle.laws.specs.Exact.{Is256}
use Rattle.duration.proofs.Laws.{Summed}
use Rattle.duration.proofs.Duration.beats.Given as goal

abbrev pub invariant-loop : goal.invariant-loop
invariant-loop l = (l.counter ≤ l.dots) × ((n : ℕ) → n ≤ 4096 → Is256 l.base n → Summed n l.counter l.total l.dot)

abbrev pub decreases-loop : goal.decreases-loop
decreases-loop l = l.dots - l.counter
