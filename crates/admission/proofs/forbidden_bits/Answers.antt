use Prim.Native.Nat.{◌<◌}
use mathlib.Core.Path.{◌≡◌, refl, ◌∙◌}
use native.Mathlib.Omega.{arith}
use lib.ListN.{length, length-set}
use Rattle.admission.proofs.Masks.{masked_none, masked_more}
use Rattle.admission.proofs.forbidden_bits.Goals as goal

pub loop-k-init : goal.loop-k-init
loop-k-init c = (refl, masked_none 256 (omega arith))

pub loop-k-preserved : goal.loop-k-preserved
loop-k-preserved c =
    let here = c.loop-k in
    let l : here.k < length here.table = omega (arith, here.invariant.0) in
    (length-set here.table here.k _ ∙ here.invariant.0, masked_more here.invariant.1 l refl)

pub returns : goal.returns
returns c =
    let here = c.loop-k in
    let done : here.k ≡ 15 = omega arith in
    rw done at here.invariant.1
