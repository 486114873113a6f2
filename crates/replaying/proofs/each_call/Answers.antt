use mathlib.Core.Path.{sym, ◌∙◌}
use native.Mathlib.Omega.{arith}
use Rattle.replaying.specs.Running.{calls_at}
use Rattle.replaying.proofs.Turns.{none_is, turning_start, turning_more, turning_end, turning_still, call_still}
use Rattle.replaying.proofs.each_call.Goals as goal

pub loop-i-init : goal.loop-i-init
loop-i-init c = turning_start _ _ _

pub turn-s-requires : goal.turn-s-requires
turn-s-requires c = none_is _ (sym c.is_some.ensures ∙ c.if-is_some.false)

pub loop-i-preserved : goal.loop-i-preserved
loop-i-preserved c =
    let at_loop = c.loop-i in
    turning_more _ _ _ _ _ at_loop.invariant _ c.turn-s.ensures (omega arith)

pub returns-after-loop-i : goal.returns-after-loop-i
unfolding calls_at
returns-after-loop-i c =
    turning_end _ _ _ _ c.loop-i.i c.loop-i.invariant (omega arith) ∙ rw (sym c.number-n.ensures)

pub returns-then-is_some : goal.returns-then-is_some
unfolding calls_at
returns-then-is_some c =
    let at_loop = c.loop-i in
    let at_number = c.number-n in
    turning_still _ _ _ _ at_loop.i at_loop.invariant (call_still _ _ _ _ (sym c.is_some.ensures ∙ c.if-is_some.true)) ∙ rw (sym at_number.ensures)
