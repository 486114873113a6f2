-- `grid_of` compares the notes off the grid with a tenth of all.
use native.Mathlib.Omega.{arith}
use Rattle.proofread_staff.proofs.Answers.{grid_fine, grid_plain}
use Rattle.proofread_staff.proofs.grid_of.Goals as goal

pub returns-then-m-offs : goal.returns-then-m-offs
returns-then-m-offs c =
    let a = c.args in
    grid_fine a.p a.n a.m c.count_off-offs.result a.work.now c.count_off-offs.ensures.0 c.if-m-offs.true
    (omega (arith, c.max.ensures))

pub returns : goal.returns
returns c =
    let a = c.args in
    grid_plain a.p a.n a.m c.count_off-offs.result a.work.now c.count_off-offs.ensures.0 c.if-m-offs.false
    (omega (arith, c.max-2.ensures))
