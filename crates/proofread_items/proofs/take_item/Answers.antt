-- `take_item`: an item that fits is played, and leaves its tie and its end.
use Prim.Native.Nat.{ℕ, ◌+◌}
use mathlib.Core.Path.{refl, sym, ap, ◌∙◌}
use native.Mathlib.Omega.{arith}
use Rattle.proofread_items.proofs.Steps.{takes_fit, takes_wrong, takes_not}
use Rattle.proofread_items.proofs.take_item.Goals as goal

pub returns-then-not-item_fits : goal.returns-then-not-item_fits
returns-then-not-item_fits c =
    takes_not c.args.i c.args.v (sym c.item_fits.ensures ∙ c.if-not-item_fits.true)

pub returns-in_err-r : goal.returns-in_err-r
returns-in_err-r c =
    let a = c.args in
    rw c.from_residual.ensures
    (takes_wrong a.i a.v (a.v.tick + c.ticks_of.result) (sym c.item_fits.ensures ∙ c.if-not-item_fits.false)
    (ap (λ (t : ℕ). a.v.tick + t) c.ticks_of.ensures.0) c.in_err-r.ensures)

pub returns : goal.returns
returns c =
    let a = c.args in
    takes_fit a.i a.v (a.v.tick + c.ticks_of.result) (sym c.item_fits.ensures ∙ c.if-not-item_fits.false)
    (ap (λ (t : ℕ). a.v.tick + t) c.ticks_of.ensures.0) (omega (arith, c.ticks_of.ensures.1)) c.in_ok-r.ensures refl
    c.tie_out-tie.ensures refl refl
