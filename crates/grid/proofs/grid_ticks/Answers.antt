use mathlib.Core.Path.{sym, ◌∙◌}
use native.Mathlib.Omega.{arith}
use Rattle.grid.proofs.Counting.{counting_start, counting_more, counting_fine, counting_coarse}
use Rattle.grid.proofs.grid_ticks.Goals as goal

pub loop-k-init : goal.loop-k-init
loop-k-init c = counting_start _ _ _

pub loop-k-preserved : goal.loop-k-preserved
loop-k-preserved c =
    rw c.count_start-s.ensures
    (counting_more c.loop-k.invariant c.requires (omega arith))

pub returns-then-s : goal.returns-then-s
returns-then-s c =
    let here = c.loop-k in
    omega (arith, c.max.ensures, counting_fine here.invariant (omega arith) c.if-s.true)

pub returns-else-s : goal.returns-else-s
returns-else-s c =
    let here = c.loop-k in
    c.sixteenth.ensures ∙ sym (counting_coarse here.invariant (omega arith) c.if-s.false)
