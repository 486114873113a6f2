use mathlib.Core.Path.{sym, ◌∙◌}
use native.Mathlib.Omega.{arith}
use Rattle.laws.proofs.Values.{smallest_halved, halved_odd, halved_zero}
use Rattle.proofread_staff.proofs.Shapes.{smallest_step}
use Rattle.proofread_staff.proofs.smallest_value.Goals as goal

pub loop-init : goal.loop-init
loop-init c = (sym (smallest_halved c.args.p), c.requires)

pub returns-then-u-ne0 : goal.returns-then-u-ne0
returns-then-u-ne0 c = let l = c.loop in (sym (halved_odd _ l.u c.if-u-ne0.true) ∙ l.invariant.0, l.invariant.1)

pub loop-preserved : goal.loop-preserved
loop-preserved c =
    let l = c.loop in
    (smallest_step l.counter l.u (omega arith) c.if-u-ne0.false l.invariant.0, omega (arith, l.invariant.1, c.if-u-ne0.false))

pub returns : goal.returns
returns c = let l = c.loop in (sym (halved_zero _ l.u (omega arith)) ∙ l.invariant.0, l.invariant.1)
