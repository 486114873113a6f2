-- `length` answers the bar's length: 4 p upper fits, since p is at most 65,535.
use Prim.Native.Nat.{◌*◌, ◌≤◌}
use native.Mathlib.Nat.{mul-le-mul}
use native.Mathlib.Omega.{arith}
use Rattle.bar_walk.proofs.Walker.length.Goals as goal

pub overflow_mul-length-2 : goal.overflow_mul-length-2
overflow_mul-length-2 c =
    let w = c.args.self in
    let product : 4 * w.p * w.upper ≤ 262140 * 4294967295 = mul-le-mul {n₂ = 262140} {m₂ = 4294967295} (omega arith) (omega arith) in
    record { fits = omega arith }
