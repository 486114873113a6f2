use mathlib.Core.Bool.{not}
use mathlib.Core.Path.{sym, ap, ◌∙◌}
use native.Mathlib.Omega.{arith}
use Rattle.laws.proofs.Tests.{below_none, below_more, below_fails}
use Rattle.auxiliary_channels.proofs.none_chained.Goals as goal

pub loop-spare-init : goal.loop-spare-init
loop-spare-init c = below_none _

pub returns-then-is_chained : goal.returns-then-is_chained
returns-then-is_chained c = sym (below_fails _ 16 c.loop-spare.spare (omega arith) (ap not (sym c.is_chained.ensures ∙ c.if-is_chained.true)))

pub loop-spare-preserved : goal.loop-spare-preserved
loop-spare-preserved c = below_more _ c.loop-spare.spare c.loop-spare.invariant (ap not (sym c.is_chained.ensures ∙ c.if-is_chained.false))
