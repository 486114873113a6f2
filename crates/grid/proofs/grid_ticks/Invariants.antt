-- `grid_ticks` counts a track's starts. The invariant: the starts counted, and those of the events left, are the raw notes; so for those off the grid.
use Rattle.grid.proofs.Counting.{Counting}
use Rattle.grid.proofs.grid_ticks.Given as goal

abbrev pub invariant-loop-k : goal.invariant-loop-k
invariant-loop-k l = Counting l.p l.deltas l.words l.s l.k
