use native.Mathlib.Omega.{arith}
use Rattle.laws.proofs.Loops.{sum_left, sum_none}
use Rattle.admission.proofs.total.Goals as goal

pub overflow_add-n : goal.overflow_add-n
overflow_add-n c = omega (arith, c.type_inv.counts c.loop-count.count-index)

pub loop-count-preserved : goal.loop-count-preserved
loop-count-preserved c =
    let counts = c.args.counts.now in
    let i = c.loop-count.count-index in
    omega (arith, c.type_inv.counts i, sum_left counts i (omega arith))

pub returns : goal.returns
returns c = omega (arith, sum_none c.args.counts.now c.loop-count.count-index (omega arith))
