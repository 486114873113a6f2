-- `ticks_of` divides the parts of a value by a power of two.
use Prim.Native.Nat.{◌+◌}
use native.Mathlib.Omega.{arith}
use Rattle.proofread_items.proofs.Lengths.{parts_small, power_some, ticks_is}
use Rattle.proofread_items.proofs.ticks_of.Goals as goal

pub overflow_mul-result-3 : goal.overflow_mul-result-3
overflow_mul-result-3 c = omega (arith, parts_small c.args.p c.args.dots (omega arith) (omega arith))

pub nonzero_div-result : goal.nonzero_div-result
nonzero_div-result c = power_some (c.args.code + c.args.dots) (omega arith)

pub returns : goal.returns
returns c = ticks_is c.args.p c.args.code c.args.dots c.requires.0 c.requires.1 c.requires.2
