-- `whole_ticks` is the rule's quotient of the two powers; the numerator is at most 16 * 65535 * 3.
use Prim.Native.Nat.{◌+◌, ◌-◌, ◌*◌, ◌^◌, ◌≤◌}
use native.Mathlib.Nat.{mul-le-mul}
use native.Mathlib.Omega.{arith}
use borrow.Author.Tests.{eq-eqb, ne_eqb}
use lib.Pow.{pow_pos, pow_mono}
use Rattle.values.proofs.whole_ticks.Goals as goal

pub overflow_sub-numerator : goal.overflow_sub-numerator
overflow_sub-numerator c = omega (arith, pow_pos (c.args.dots + 1))

pub overflow_mul-numerator-2 : goal.overflow_mul-numerator-2
overflow_mul-numerator-2 c =
    let h : 2 ^ (c.args.dots + 1) ≤ 2 ^ 2 = pow_mono {j = 2} (omega arith) in
    let m : 16 * c.args.p * (c.power_of_two.result - 1) ≤ 1048560 * 3 = mul-le-mul {n₂ = 1048560} {m₂ = 3} (omega arith) (omega arith) in
    omega arith

pub nonzero_rem-numerator : goal.nonzero_rem-numerator
nonzero_rem-numerator c = omega (arith, pow_pos (c.args.code + c.args.dots))

pub nonzero_div-result : goal.nonzero_div-result
nonzero_div-result c = omega (arith, pow_pos (c.args.code + c.args.dots))

pub returns-then-numerator-denominator-eq0 : goal.returns-then-numerator-denominator-eq0
returns-then-numerator-denominator-eq0 c =
    let above = c.power_of_two.ensures in
    let below = c.power_of_two-denominator.ensures in
    let even = rw (above, below) at c.if-numerator-denominator-eq0.true in
    rw (above, below, eq-eqb _ _ even)

pub returns-else-numerator-denominator-eq0 : goal.returns-else-numerator-denominator-eq0
returns-else-numerator-denominator-eq0 c =
    let odd = rw (c.power_of_two.ensures, c.power_of_two-denominator.ensures) at c.if-numerator-denominator-eq0.false in
    rw (ne_eqb _ _ odd)
