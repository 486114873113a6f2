use mathlib.Core.Path.{sym, ◌∙◌}
use native.Mathlib.Omega.{arith}
use Rattle.replaying.specs.Running.{pieces_at}
use Rattle.replaying.proofs.Turns.{none_is, turning_start, turning_more, turning_end, turning_still, piece_still}
use Rattle.replaying.proofs.each_piece.Goals as goal

pub loop-init : goal.loop-init
loop-init c = turning_start _ _ _

pub next_piece-s-requires : goal.next_piece-s-requires
next_piece-s-requires c = none_is _ (sym c.is_some.ensures ∙ c.if-is_some.false)

pub loop-preserved : goal.loop-preserved
loop-preserved c =
    turning_more _ _ _ _ _ c.loop.invariant _ c.next_piece-s.ensures (omega arith)

pub returns-after-loop : goal.returns-after-loop
unfolding pieces_at
returns-after-loop c =
    turning_end _ _ _ _ c.loop.counter c.loop.invariant (omega arith) ∙ rw (sym c.number-n.ensures)

pub returns-then-is_some : goal.returns-then-is_some
unfolding pieces_at
returns-then-is_some c =
    let at_number = c.number-n in
    turning_still _ _ _ _ c.loop.counter c.loop.invariant (piece_still _ _ (sym c.is_some.ensures ∙ c.if-is_some.true)) ∙ rw (sym at_number.ensures)
