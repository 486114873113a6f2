-- `most_notes` finds the most note-ons. The invariant, `MostSoFar`: the most so far, with the tracks that are left, is the piece's.
use Rattle.tracks.proofs.Cuts.{MostSoFar}
use Rattle.tracks.proofs.most_notes.Given as goal

abbrev pub invariant-loop-t : goal.invariant-loop-t
invariant-loop-t l = MostSoFar l.sizes l.deltas l.words l.most l.t l.from
