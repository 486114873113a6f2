use mathlib.Core.Path.{refl, ◌∙◌}
use native.Mathlib.Omega.{arith}
use lib.ListN.{length-set}
use Rattle.replayed.specs.Differences.{others}
use Rattle.replayed.proofs.Laws.{values_length, values_set, others_none, others_more, front_whole}
use Rattle.replayed.proofs.fill.Goals as goal

pub loop-i-init : goal.loop-i-init
loop-i-init g c = (refl, others_none _)

pub from_u64-requires : goal.from_u64-requires
from_u64-requires g c = omega (arith, g.met.T.Wide.holds)

pub loop-i-preserved : goal.loop-i-preserved
loop-i-preserved g c =
    let same = g.met.T.Number.one_by_one in
    let here = c.loop-i in
    let kept = values_length same c.args.l.now in (
      simp length-set here.invariant.0,
      values_set same here.l here.i _ _ c.from_u64.ensures
          ∙ others_more _ _ here.i (omega arith) here.invariant.1,
    )

pub returns : goal.returns
returns g c =
    let kept = values_length g.met.T.Number.one_by_one c.args.l.now in
    rw kept at (front_whole (others 0) _ _ c.loop-i.i (omega arith) (omega arith) c.loop-i.invariant.1)
