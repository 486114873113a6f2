-- `smallest_value` halves p. The loop's invariant: what is halved from here on gives the smallest value.
use Prim.Native.Nat.{◌-◌, ◌<◌}
use mathlib.Core.Path.{◌≡◌}
use Rattle.laws.specs.Ladder.{halved}
use Rattle.rules.specs.Values.{smallest}
use Rattle.proofread_staff.proofs.smallest_value.Given as goal

abbrev pub invariant-loop : goal.invariant-loop
invariant-loop l = (halved (4 - l.counter) l.u ≡ smallest l.p) × (0 < l.u)
