-- `replaying::calls_of` meets its contract: the piece is at the fronts of the arrays.
use mathlib.Core.Path.{sym}
use lib.Seq.{length-take-le}
use Rattle.replaying.proofs.calls_of.Goals as goal

pub slice_bounds-each_call-end : goal.slice_bounds-each_call-end
slice_bounds-each_call-end c =
    sym (length-take-le _ _ c.requires.0)

pub slice_bounds-each_call-end-2 : goal.slice_bounds-each_call-end-2
slice_bounds-each_call-end-2 c =
    sym (length-take-le _ _ c.requires.1)

pub slice_bounds-each_call-end-3 : goal.slice_bounds-each_call-end-3
slice_bounds-each_call-end-3 c =
    sym (length-take-le _ _ c.requires.2)

pub slice_bounds-each_call-end-4 : goal.slice_bounds-each_call-end-4
slice_bounds-each_call-end-4 c =
    sym (length-take-le _ _ c.requires.3)
