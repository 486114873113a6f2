-- `end_of_piece`: the largest end of the parts. The invariant: the counts are zero, and, `Between`, the end so far and that of the parts to come are
-- the end of the piece.
use mathlib.Core.Path.{◌≡◌}
use Rattle.ends.specs.Pass.{no_counts}
use Rattle.ends.proofs.PartEnds.{Between}
use Rattle.ends.proofs.end_of_piece.Given as goal

abbrev pub invariant-loop-i : goal.invariant-loop-i
invariant-loop-i l = (l.counts ≡ no_counts) × Between l.sizes l.deltas l.words l.s l.from l.i
