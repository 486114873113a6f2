-- `is_off` makes two tests of the remainder in turn.
use native.Mathlib.Omega.{arith}
use Rattle.proofread_staff.proofs.Measuring.{off_by, on_by}
use Rattle.proofread_staff.proofs.is_off.Goals as goal

pub returns-then-t-offset : goal.returns-then-t-offset
returns-then-t-offset c =
    off_by c.args.p c.args.start c.max-q.result (omega (arith, c.max-q.ensures))
    c.if-t-offset.true

pub returns-else-t-offset : goal.returns-else-t-offset
returns-else-t-offset c =
    on_by c.args.p c.args.start c.max-q.result (omega (arith, c.max-q.ensures)) c.if-t-offset.false
