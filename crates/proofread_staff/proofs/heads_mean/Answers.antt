use mathlib.Core.Path.{refl}
use native.Mathlib.Omega.{arith}
use Rattle.proofread_staff.proofs.Shapes.{mean_goes, mean_end}
use Rattle.proofread_staff.proofs.heads_mean.Goals as goal

pub loop-head-init : goal.loop-head-init
loop-head-init c = refl

pub loop-head-preserved : goal.loop-head-preserved
loop-head-preserved c =
    let a = c.args in
    let l = c.loop-head in
    mean_goes a.heads.now l.head-index (omega arith) (omega arith) l.invariant

pub returns : goal.returns
returns c = mean_end c.args.heads.now c.loop-head.head-index (omega arith) c.loop-head.invariant
