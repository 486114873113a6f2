use mathlib.Core.Path.{sym, ◌∙◌}
use native.Mathlib.Omega.{arith}
use lib.ListN.{get_or}
use Rattle.values.proofs.Entries.{coming_end, coming_zero, counted_start, division_few, counted_long, counted_more, counted_over, counted_end}
use Rattle.values.proofs.count_pieces.Goals.{then-fits, else-fits}
use Rattle.values.proofs.count_pieces.Goals as goal

pub loop-i-init : goal.loop-i-init
loop-i-init c = counted_start c.first_entry-i.ensures

pub returns-then-left-eq0 : goal.returns-then-left-eq0
returns-then-left-eq0 c p h e = counted_end p (coming_zero _ _ _ c.if-left-eq0.true) c.loop-i.invariant h e

pub nonzero_div-pieces : goal.nonzero_div-pieces
nonzero_div-pieces c = counted_long (omega arith) c.loop-i.invariant (sym c.fits.ensures ∙ c.if-fits.true)

pub overflow_add-pieces : goal.overflow_add-pieces
overflow_add-pieces c = omega (arith, division_few c.loop-i.left (get_or c.args.values.now c.loop-i.i 0) (counted_long (omega arith) c.loop-i.invariant (sym c.fits.ensures ∙ c.if-fits.true)))

pub nonzero_rem-left : goal.nonzero_rem-left
nonzero_rem-left c = counted_long (omega arith) c.loop-i.invariant (sym c.fits.ensures ∙ c.if-fits.true)

pub loop-i-preserved : goal.loop-i-preserved
loop-i-preserved c =
    let here = c.loop-i in
    let test = c.fits.ensures in
    elim c.if-fits.branch [
      | then-fits w ↦ rw (w.pieces-is, w.left-is) (counted_more (omega arith) here.invariant (sym test ∙ w.if-fits.true))
      | else-fits w ↦ rw (w.pieces-is, w.left-is) (counted_over (omega arith) here.invariant (sym test ∙ w.if-fits.false))
    ]

pub returns : goal.returns
returns c p h e = counted_end p (coming_end _ _ _ (omega arith)) c.loop-i.invariant h e
