-- `snap_to` is snapping: the multiple of the grid is not above the sum that it is taken from.
use Prim.Native.Nat.{◌+◌, ◌/◌}
use mathlib.Core.Path.{refl}
use native.Mathlib.Omega.{arith}
use native.Mathlib.Nat.{div-mul-le_self}
use Rattle.proofread_notes.proofs.snap_to.Goals as goal

pub overflow_mul-result : goal.overflow_mul-result
overflow_mul-result c = omega (arith, div-mul-le_self (c.args.t + c.args.g / 2) c.args.g)

pub returns : goal.returns
returns c = (refl, omega (arith, div-mul-le_self (c.args.t + c.args.g / 2) c.args.g))
