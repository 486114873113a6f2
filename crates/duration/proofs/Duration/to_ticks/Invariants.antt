-- `Duration::to_ticks` meets its contract. The loop's invariant: the ticks so far and the halves to come are the whole length.
-- Assumes nothing.
use mathlib.Core.Path.{◌≡◌}
use Prim.Native.Nat.{◌+◌, ◌-◌, ◌*◌, ◌≤◌}
use Rattle.rules.specs.Values.{dotted}
use Rattle.duration.proofs.Laws.{halves}
use Rattle.duration.proofs.Duration.to_ticks.Given as goal

abbrev pub invariant-loop : goal.invariant-loop
invariant-loop l = (l.counter ≤ l.dots) × (l.dot ≤ 7680) × (l.ticks ≤ 7680 + 7680 * l.counter) × (l.ticks + halves (l.dots - l.counter) l.dot ≡ dotted l.dots l.base)

abbrev pub decreases-loop : goal.decreases-loop
decreases-loop l = l.dots - l.counter
