use native.Mathlib.Omega.{arith}
use mathlib.Core.Path.{ap}
use Rattle.rules.specs.Lists.{flag}
use Rattle.proofread_staff.proofs.Measuring.{byte_flag, byte_one, off_all, off_one, off_none}
use Rattle.proofread_staff.proofs.count_off.Goals as goal

pub loop-i-init : goal.loop-i-init
loop-i-init c = let a = c.args in (omega (arith, off_all a.p a.n a.m a.work.now), omega arith)

pub loop-i-preserved : goal.loop-i-preserved
loop-i-preserved c =
    let a = c.args in
    let l = c.loop-i in (
      omega (arith, l.invariant.0, off_one a.p a.n a.m a.work.now l.i (omega arith), c.from-offs.ensures, byte_flag c.is_off.result, ap flag c.is_off.ensures),
      omega (arith, l.invariant.1, c.from-offs.ensures, byte_one c.is_off.result),
    )

pub returns : goal.returns
returns c =
    let a = c.args in
    let l = c.loop-i in
    (omega (arith, l.invariant.0, off_none a.p a.n a.m a.work.now l.i (omega arith)), omega (arith, l.invariant.1))
