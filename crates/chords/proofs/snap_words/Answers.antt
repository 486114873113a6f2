use native.Mathlib.Omega.{arith}
use Rattle.chords.proofs.Sorting.{snapping_one}
use Rattle.chords.proofs.snap_words.Goals as goal

pub loop-i-preserved : goal.loop-i-preserved
loop-i-preserved c =
    snapping_one c.requires c.loop-i.invariant (omega arith) _ _ c.snap-start.ensures (rw c.snap.ensures at c.max-end.ensures)
