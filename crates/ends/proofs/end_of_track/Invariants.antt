-- `ends::end_of_track` meets its contract. The loop's invariant: the pass over what is left, from here, is the pass over the whole track.
use Rattle.ends.specs.Pass.{reached}
use Rattle.ends.proofs.Midway.{Midway}
use Rattle.ends.proofs.end_of_track.Given as goal

abbrev pub invariant-loop-i : goal.invariant-loop-i
invariant-loop-i l = Midway l.deltas l.words (reached l.counts l.p) l.i
