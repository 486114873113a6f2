-- `printer::writer::print_page` takes turns until none goes on. Invariant: the place is ready, and the arrays keep their lengths; the measure is how far the
-- place is from the end.
use mathlib.Core.Path.{◌≡◌}
use lib.ListN.{length}
use Rattle.rules.specs.Piece.{piece}
use Rattle.pages.specs.Spots.{sheet}
use Rattle.page_openings.specs.Places.{Ready, weight}
use Rattle.printer.proofs.writer.print_page.Given as goal

abbrev pub invariant-loop-at : goal.invariant-loop-at
invariant-loop-at l = (length l.counts ≡ length l.initial.counts)
    × (length l.heads ≡ length l.initial.heads)
    × (length l.keys ≡ length l.initial.keys)
    × (length l.work ≡ length l.initial.work)
    × (length l.out ≡ length l.initial.out)
    × Ready (piece l.sizes l.deltas l.words) (record { items = length l.initial.heads; work = length l.initial.work }) (sheet l.counts l.heads l.keys l.starts l.marks) l.at

abbrev pub decreases-loop-at : goal.decreases-loop-at
decreases-loop-at l = weight (piece l.sizes l.deltas l.words) (sheet l.counts l.heads l.keys l.starts l.marks) l.at
