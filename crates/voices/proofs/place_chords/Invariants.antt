-- `place_chords` places one chord after the other. The invariant: the voices are those of the first k chords, and the others stand as they did.
use Rattle.voices.specs.Placing.{lasts_of}
use Rattle.voices.proofs.Spreading.{Spreading}
use Rattle.voices.proofs.place_chords.Given as goal

abbrev pub invariant-loop-k : goal.invariant-loop-k
invariant-loop-k l = Spreading l.n l.m l.k (lasts_of l.starts l.ends l.lens) l.initial.work l.work
