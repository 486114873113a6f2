use mathlib.Core.Path.{sym, ◌∙◌}
use native.Mathlib.Omega.{arith}
use Rattle.values.proofs.Entries.{coming_end, coming_zero}
use Rattle.values.proofs.Spreading.{spreading_start, spreading_fits, spreading_room, spreading_more, spreading_over, spreading_end}
use Rattle.values.proofs.split_span.Goals as goal

pub loop-i-init : goal.loop-i-init
loop-i-init c = spreading_start c.first_entry-i.ensures c.requires.0

pub shape_of-out-then-left-eq0 : goal.shape_of-out-then-left-eq0
shape_of-out-then-left-eq0 c = c.loop-i.invariant.filling.kept

pub returns-then-left-eq0 : goal.returns-then-left-eq0
returns-then-left-eq0 c p h e = spreading_end c.loop-i.invariant (coming_zero _ _ _ c.if-left-eq0.true) p h e

pub bounds-out-at : goal.bounds-out-at
bounds-out-at c =
    spreading_room c.loop-i.invariant (omega arith) (sym c.fits.ensures ∙ c.if-fits.true)

pub overflow_sub-left : goal.overflow_sub-left
overflow_sub-left c =
    (spreading_fits c.loop-i.invariant (omega arith) (sym c.fits.ensures ∙ c.if-fits.true)).1

pub loop-i-smaller-then-fits : goal.loop-i-smaller-then-fits
loop-i-smaller-then-fits c =
    let fit = spreading_fits c.loop-i.invariant (omega arith) (sym c.fits.ensures ∙ c.if-fits.true) in
    omega arith

pub loop-i-preserved-then-fits : goal.loop-i-preserved-then-fits
loop-i-preserved-then-fits c =
    rw c.word.ensures (spreading_more c.loop-i.invariant (omega arith) (sym c.fits.ensures ∙ c.if-fits.true))

pub loop-i-preserved : goal.loop-i-preserved
loop-i-preserved c = spreading_over c.loop-i.invariant (omega arith) (sym c.fits.ensures ∙ c.if-fits.false)

pub shape_of-out : goal.shape_of-out
shape_of-out c = c.loop-i.invariant.filling.kept

pub returns : goal.returns
returns c p h e = spreading_end c.loop-i.invariant (coming_end _ _ _ (omega arith)) p h e
