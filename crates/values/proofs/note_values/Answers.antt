use mathlib.Core.Path.{refl}
use native.Mathlib.Omega.{arith}
use Rattle.values.proofs.Tables.{tabled_start, tabled_more, tabled_end}
use Rattle.values.proofs.note_values.Goals as goal

pub loop-code-init : goal.loop-code-init
loop-code-init c = tabled_start _ _ refl

pub loop-code-preserved : goal.loop-code-preserved
loop-code-preserved c = rw (c.whole_ticks.ensures, c.whole_ticks-in-loop-code.ensures) (tabled_more c.loop-code.invariant (omega arith))

pub returns : goal.returns
returns c = tabled_end c.loop-code.invariant (omega arith)
