-- `page_openings::open_front` opens the piece at the front of the arrays.
use mathlib.Core.Path.{sym}
use lib.Seq.{length-take-le}
use Rattle.page_openings.proofs.open_front.Goals as goal

pub slice_bounds-open_piece-end : goal.slice_bounds-open_piece-end
slice_bounds-open_piece-end c = sym (length-take-le _ _ c.requires.fit.sizes)

pub slice_bounds-open_piece-end-2 : goal.slice_bounds-open_piece-end-2
slice_bounds-open_piece-end-2 c = sym (length-take-le _ _ c.requires.fit.deltas)

pub slice_bounds-open_piece-end-3 : goal.slice_bounds-open_piece-end-3
slice_bounds-open_piece-end-3 c = sym (length-take-le _ _ c.requires.fit.words)
