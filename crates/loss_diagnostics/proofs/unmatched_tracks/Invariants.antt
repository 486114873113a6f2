-- `unmatched_tracks` walks along the tracks. The invariant, `Tracking`: what is found in the tracks passed is put, and no start waits.
use Rattle.loss_diagnostics.proofs.Walking.{Tracking}
use Rattle.loss_diagnostics.proofs.unmatched_tracks.Given as goal

abbrev pub invariant-loop-i : goal.invariant-loop-i
invariant-loop-i l = Tracking l.sizes l.deltas l.words l.at l.n l.initial.work l.initial.places l.initial.details l.heads l.tails l.i l.from l.next l.work l.places l.details
