-- The list is half written: those chosen of the events passed stand in the outputs, and those of the events left are to come.
use Rattle.automation_events.proofs.WritingLaws.{Midway}
use Rattle.automation_events.proofs.collect_kind.Given as goal

abbrev pub invariant-loop-i : goal.invariant-loop-i
invariant-loop-i l = Midway l.deltas l.words l.choice l.n l.initial.ticks l.initial.out l.next l.tick.0 l.i l.ticks l.out
