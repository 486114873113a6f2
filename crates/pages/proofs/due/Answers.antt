use mathlib.Core.Path.{◌≡◌}
use native.Mathlib.Omega.{arith}
use Rattle.pages.proofs.Ahead.{passed_none, passed_more}
use Rattle.pages.proofs.due.Goals as goal

pub loop-k-init : goal.loop-k-init
loop-k-init c = passed_none _ _ _ (omega arith)

pub returns-then-k-eq0 : goal.returns-then-k-eq0
returns-then-k-eq0 c =
    record { passed = c.loop-k.invariant; found = λ l no_bar. absurd (no_bar c.if-k-eq0.true) }

pub returns-then-counts-k-ne0 : goal.returns-then-counts-k-ne0
returns-then-counts-k-ne0 c = record { passed = c.loop-k.invariant; found = λ l no_bar. omega arith }

pub loop-k-preserved : goal.loop-k-preserved
loop-k-preserved c =
    passed_more c.loop-k.invariant (omega arith) c.if-k-eq0.false (omega arith)

pub returns : goal.returns
returns c =
    let e : c.loop-k.k ≡ c.args.end = omega arith in
    record { passed = rw e at c.loop-k.invariant; found = λ l no_bar. absurd (omega arith) }
