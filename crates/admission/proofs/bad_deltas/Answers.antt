use mathlib.Core.Logic.{inl, inr}
use native.Mathlib.Omega.{arith}
use borrow.Author.Tests.{ltb-false}
use lib.ListN.{get_or}
use Rattle.laws.proofs.Order.{by_eq}
use Rattle.admission.proofs.Masks.{or_left, or_right}
use Rattle.admission.proofs.bad_deltas.Goals as goal

pub loop-i-init : goal.loop-i-init
loop-i-init c = λ j f t. absurd (omega arith)

pub offset_bounds-deltas-i : goal.offset_bounds-deltas-i
offset_bounds-deltas-i c = omega (arith, c.requires.1)

pub bounds-deltas-i : goal.bounds-deltas-i
bounds-deltas-i c = omega (arith, c.requires.1)

pub loop-i-preserved : goal.loop-i-preserved
loop-i-preserved c =
    let here = c.loop-i in
    let ds = c.args.deltas.now in
    let d = get_or ds here.i 0 in
    λ j f t.
    elim (by_eq j here.i) [
      | inl e ↦ rw e (or_right here.all d)
      | inr e ↦ omega (arith, here.invariant j f (omega arith), or_left here.all d)
    ]

pub returns : goal.returns
returns c z =
    record {
      each = λ j f t.
          let here = c.loop-i in
          omega (arith, c.requires, ltb-false 268435455 here.all z, here.invariant j f (omega (arith, c.requires)));
    }
