-- `find_events` passes over a track. The invariant, `Searching`: what is found in the events passed is put.
use Rattle.event_diagnostics.proofs.Searching.{Searching}
use Rattle.event_diagnostics.proofs.find_events.Given as goal

abbrev pub invariant-loop-i : goal.invariant-loop-i
invariant-loop-i l = Searching l.group l.track l.at l.deltas l.words l.initial.places l.initial.details l.i l.tick l.next l.places l.details
