-- `pair_track` pairs a track's events. The invariant, `Running`: what is paired, then the pairing of the events left, is the pairing of all.
use Rattle.unmatched.proofs.Running.{Running}
use Rattle.unmatched.proofs.pair_track.Given as goal

abbrev pub invariant-loop-i : goal.invariant-loop-i
invariant-loop-i l = Running l.deltas l.words l.heads l.tails l.work l.n l.track l.at l.initial.places l.initial.details l.i l.s l.places l.details
