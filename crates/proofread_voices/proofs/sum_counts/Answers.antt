use Prim.Native.Nat.{ℕ, ◌+◌}
use mathlib.Core.Path.{◌≡◌, ap, ◌∙◌}
use native.Mathlib.Omega.{arith}
use lib.ListN.{take, drop}
use Rattle.rules.specs.Lists.{sum}
use Rattle.proofread_voices.proofs.BarItems.{sum_start, sum_more}
use Rattle.proofread_voices.proofs.sum_counts.Goals as goal

pub loop-i-init : goal.loop-i-init
loop-i-init c = (sum_start (drop c.args.from c.args.counts.now), omega arith)

pub overflow_cast-total : goal.overflow_cast-total
overflow_cast-total c = omega (arith, c.type_inv.counts (c.args.from + c.loop-i.i))

pub overflow_add-total-in-loop-i : goal.overflow_add-total-in-loop-i
overflow_add-total-in-loop-i c = omega (arith, c.type_inv.counts (c.args.from + c.loop-i.i), c.loop-i.invariant.1)

pub loop-i-preserved : goal.loop-i-preserved
loop-i-preserved c =
    let a = c.args in
    let l = c.loop-i in (
      omega (arith, l.invariant.0, sum_more a.counts.now a.from l.i (omega arith)),
      omega (arith, c.type_inv.counts (a.from + l.i), l.invariant.1),
    )

pub returns : goal.returns
returns c =
    let a = c.args in
    let l = c.loop-i in
    let q : l.i ≡ a.n = omega arith in
    (l.invariant.0 ∙ ap (λ (x : ℕ). sum (take x (drop a.from a.counts.now))) q, omega (arith, l.invariant.1))
