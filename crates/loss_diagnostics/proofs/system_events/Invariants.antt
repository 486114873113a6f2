-- `system_events` walks along the tracks. The invariant, `Walking`: what is found in the tracks passed is put.
use Rattle.rules.specs.Diagnostics.{system_found}
use Rattle.loss_diagnostics.proofs.Walking.{Walking}
use Rattle.loss_diagnostics.proofs.system_events.Given as goal

abbrev pub invariant-loop-i : goal.invariant-loop-i
invariant-loop-i l = Walking system_found l.sizes l.deltas l.words l.at l.initial.places l.initial.details l.i l.from l.next l.places l.details
