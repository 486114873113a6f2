-- `next_bar` goes on by the bar's length, which is below 2 ^ 51.
use Prim.Native.Nat.{ℕ, ◌*◌, ◌/◌, ◌≤◌, ◌<◌, ◌^◌}
use native.Mathlib.Nat.{mul-le-mul, div-le_self}
use native.Mathlib.Omega.{arith}
use Rattle.rules.specs.Piece.{largest_size}
use Rattle.rules.specs.Changes.{Meter}
use Rattle.rules.specs.Bars.{bar_length}
use Rattle.bar_walk.specs.Steps.{meter_in}
use Rattle.bar_walk.proofs.Walker.next_bar.Goals as goal

short : (p : ℕ) (m : Meter) → p ≤ largest_size → m.upper < 2 ^ 32 → bar_length p m < 2 ^ 51
short p m h k =
    let product : 4 * p * m.upper ≤ 262140 * 4294967295 = mul-le-mul {n₂ = 262140} {m₂ = 4294967295} (omega arith) (omega arith) in
    let whole : 4 * p * m.upper / m.lower ≤ 4 * p * m.upper = div-le_self (4 * p * m.upper) m.lower in
    omega arith

pub overflow_add-result : goal.overflow_add-result
overflow_add-result c =
    let w = c.args.self in
    let length : bar_length w.p (meter_in w) < 2 ^ 51 = short w.p (meter_in w) c.requires.ticks (omega arith) in
    record { fits = omega (arith, c.length-length.ensures) }

pub returns : goal.returns
returns c = rw c.length-length.ensures
