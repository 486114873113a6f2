-- `measure` goes along the bars. The loop's invariant: the bars passed and those ahead are all, in number, in their end and in their evenness.
use mathlib.Core.Path.{◌≡◌}
use Rattle.proofread_staff.proofs.Measuring.{Measuring}
use Rattle.proofread_staff.proofs.measure.Given as goal

abbrev pub invariant-loop : goal.invariant-loop
invariant-loop l = Measuring l.deltas l.words l.p l.end l.max_bars l.u l.walker l.x × (l.x.bars ≡ l.counter)
