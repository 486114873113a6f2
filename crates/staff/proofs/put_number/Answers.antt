-- `put_number`: one word, where it is written.
use native.Mathlib.Omega.{arith}
use Rattle.staff.proofs.BarWalk.{put_one, put_no}
use Rattle.staff.proofs.put_number.Goals as goal

pub offset_bounds-out-at : goal.offset_bounds-out-at
offset_bounds-out-at c = omega (arith, c.requires.0 c.if-write.true)

-- the place is in the output
pub bounds-out-at : goal.bounds-out-at
bounds-out-at c = c.requires.0 c.if-write.true

pub returns-then-write : goal.returns-then-write
returns-then-write c = rw c.if-write.true (put_one _ _ _ (c.requires.0 c.if-write.true))

pub returns-else-write : goal.returns-else-write
returns-else-write c = rw c.if-write.false (put_no _ _ _)
