-- `printer::writer::print_lent` hands over the piece at the front of the arrays: its lengths fit, and the place is ready.
use mathlib.Core.Path.{refl, sym}
use lib.Seq.{length-take-le}
use Rattle.printer.proofs.writer.print_lent.Goals as goal

pub slice_bounds-print_page-end : goal.slice_bounds-print_page-end
slice_bounds-print_page-end c = sym (length-take-le _ _ c.requires.within.sizes)

pub slice_bounds-print_page-end-2 : goal.slice_bounds-print_page-end-2
slice_bounds-print_page-end-2 c = sym (length-take-le _ _ c.requires.within.deltas)

pub slice_bounds-print_page-end-3 : goal.slice_bounds-print_page-end-3
slice_bounds-print_page-end-3 c = sym (length-take-le _ _ c.requires.within.words)

pub print_page-requires : goal.print_page-requires
print_page-requires c =
    record { ready = c.requires.ready_for _ refl refl; rooms = c.requires.rooms; in_bounds = c.requires.in_bounds }
