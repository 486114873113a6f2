-- `part_track` finds the track of part k. The invariant, `Seeking`: part k is the part number `before` of the tracks that are left.
use Rattle.tracks.proofs.Cuts.{Seeking}
use Rattle.tracks.proofs.part_track.Given as goal

abbrev pub invariant-loop-i : goal.invariant-loop-i
invariant-loop-i l = Seeking l.sizes l.deltas l.words l.k l.before l.i l.from
