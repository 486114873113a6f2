-- `count_parts` counts the tracks with notes. The invariant, `PartsSoFar`: the parts so far, with the tracks that are left, are the piece's.
use Rattle.tracks.proofs.Cuts.{PartsSoFar}
use Rattle.tracks.proofs.count_parts.Given as goal

abbrev pub invariant-loop-i : goal.invariant-loop-i
invariant-loop-i l = PartsSoFar l.sizes l.deltas l.words l.n l.i l.from
