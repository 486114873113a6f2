-- `bar_lines::bar_length` is the bar's length by section 4; the product stays below 2 ^ 64.
use native.Mathlib.Nat.{max_comm}
use native.Mathlib.Omega.{arith}
use native.Mathlib.Nat.{mul-le-mul, div-zero}
use Prim.Native.Nat.{◌*◌, ◌≤◌}
use Rattle.bar_lines.proofs.bar_length.Goals as goal

pub returns-then-lower-eq0 : goal.returns-then-lower-eq0
returns-then-lower-eq0 c = rw (c.if-lower-eq0.true, div-zero)

pub overflow_mul-length-2 : goal.overflow_mul-length-2
overflow_mul-length-2 c = let p = c.args.p in
    let m = c.from.result in
    let product : 4 * p * m ≤ 262140 * 255 = mul-le-mul {n₂ = 262140} {m₂ = 255} (omega arith) (omega (arith, c.from.ensures)) in
    record { fits = omega arith }

pub returns : goal.returns
returns c = rw (c.from.ensures, c.from-2.ensures, max_comm) at c.max.ensures
