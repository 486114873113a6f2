use mathlib.Core.Path.{refl, sym, ◌∙◌}
use native.Mathlib.Omega.{arith}
use Rattle.std.proofs.lemmas.Result.{err_from_is_err_and}
use Rattle.admission.proofs.Numbers.{bad_none}
use Rattle.admission.proofs.Refused.{not_zero}
use Rattle.admission.proofs.first_bad_event.Goals as goal

pub loop-i-init : goal.loop-i-init
loop-i-init c = (omega arith, refl)

pub bad_in_block-requires : goal.bad_in_block-requires
bad_in_block-requires c =
    let end = c.block_end-to.ensures in
    (c.forbidden_bits-table.ensures, c.requires, omega (arith, end), omega (arith, end))

pub returns-in_err-bad_in_block : goal.returns-in_err-bad_in_block
returns-in_err-bad_in_block c =
    let p = err_from_is_err_and c.from_residual.result c.from_residual.ensures.1 in
    rw (p.1, p.2) (c.in_err-bad_in_block.ensures.some (not_zero _) ∙ c.loop-i.invariant.1)

pub loop-i-smaller : goal.loop-i-smaller
loop-i-smaller c = omega (arith, c.block_end-to.ensures)

pub loop-i-preserved : goal.loop-i-preserved
loop-i-preserved c = (
  omega (arith, c.block_end-to.ensures),
  sym (c.in_ok-bad_in_block.ensures.none refl) ∙ c.loop-i.invariant.1,
)

pub returns : goal.returns
returns c =
    let start = c.args in
    sym (sym c.loop-i.invariant.1 ∙ bad_none start.deltas.now start.words.now c.loop-i.i (omega arith))
