-- `pair_track` pairs a track's events. The invariant: what is paired, then the pairing of the events left, is the pairing of all.
use Rattle.raw_notes.proofs.Running.{Running}
use Rattle.raw_notes.proofs.pair_track.Given as goal

abbrev pub invariant-loop-i : goal.invariant-loop-i
invariant-loop-i l = Running l.deltas l.words l.heads l.tails l.work l.n l.i l.s
