-- `length_of` answers a meter's length: 4 p upper fits, since p is at most 65,535.
use Prim.Native.Nat.{◌*◌, ◌≤◌}
use mathlib.Core.Path.{◌∙◌}
use native.Mathlib.Nat.{mul-le-mul}
use native.Mathlib.Omega.{arith}
use Rattle.changes.proofs.ChangeLaws.{lower_positive}
use Rattle.event_diagnostics.proofs.length_of.Goals as goal

pub overflow_mul-result-2 : goal.overflow_mul-result-2
overflow_mul-result-2 c =
    let p = c.args.p in
    let product : 4 * p * c.from-upper.result ≤ 262140 * 4294967295 = mul-le-mul {n₂ = 262140} {m₂ = 4294967295} (omega arith) (omega arith) in
    record { fits = omega arith }

pub nonzero_div-result : goal.nonzero_div-result
nonzero_div-result c = omega (arith, c.from-lower.ensures, c.lower_of.ensures, lower_positive c.args.word)

pub returns : goal.returns
returns c = rw (c.from-upper.ensures ∙ c.byte_a.ensures, c.from-lower.ensures ∙ c.lower_of.ensures)
