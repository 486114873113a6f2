use mathlib.Core.Path.{sym, ◌∙◌}
use native.Mathlib.Omega.{arith}
use Rattle.replayed.proofs.Laws.{values_length, values_at, differ_more, differ_here, differ_short, differ_long_at_end, differ_end}
use Rattle.replayed.proofs.first_difference.Goals as goal

pub returns-then-found-i : goal.returns-then-found-i
returns-then-found-i g c =
    let kept = values_length g.met.T.Number.one_by_one c.args.found.now in
    differ_short _ _ _ c.loop-i.invariant (omega arith) (omega arith)

pub returns-then-wanted-i : goal.returns-then-wanted-i
returns-then-wanted-i g c =
    let same = g.met.T.Number.one_by_one in
    let kept = values_length same c.args.found.now in
    let read = values_at same c.args.found.now c.loop-i.i _ c.if-found-i.false c.index-found-i.is in
    differ_here _ _ _ c.loop-i.invariant (omega arith) (omega arith)
    (λ e. c.if-wanted-i.true (e ∙ read ∙ sym c.to_u64.ensures))

pub loop-i-preserved : goal.loop-i-preserved
loop-i-preserved g c =
    let same = g.met.T.Number.one_by_one in
    let kept = values_length same c.args.found.now in
    let read = values_at same c.args.found.now c.loop-i.i _ c.if-found-i.false c.index-found-i.is in
    differ_more _ _ _ c.loop-i.invariant (omega arith) (omega arith)
    (c.if-wanted-i.false ∙ c.to_u64.ensures ∙ sym read)

pub returns-then-wanted-found : goal.returns-then-wanted-found
returns-then-wanted-found g c =
    let kept = values_length g.met.T.Number.one_by_one c.args.found.now in
    differ_long_at_end _ _ _ c.loop-i.invariant (omega arith) (omega arith)

pub returns : goal.returns
returns g c =
    let kept = values_length g.met.T.Number.one_by_one c.args.found.now in
    differ_end _ _ _ c.loop-i.invariant (omega arith) (omega arith)
