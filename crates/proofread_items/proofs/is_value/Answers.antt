-- `is_value` divides the parts of a value by a power of two.
use Prim.Native.Nat.{◌+◌}
use native.Mathlib.Omega.{arith}
use Rattle.proofread_items.proofs.Lengths.{parts_small, power_some, value_is}
use Rattle.proofread_items.proofs.is_value.Goals as goal

pub overflow_mul-result-3 : goal.overflow_mul-result-3
overflow_mul-result-3 c = omega (arith, parts_small c.args.p c.args.dots (omega arith) (omega arith))

pub nonzero_rem-result : goal.nonzero_rem-result
nonzero_rem-result c = power_some (c.args.code + c.args.dots) (omega arith)

pub returns : goal.returns
returns c = value_is c.args.p c.args.code c.args.dots (omega arith) c.requires.1
