-- `engrave_and_read`: a refused engraving has its number; any other is handed to the proof-reader, neither more nor less of it, and the answer says
-- whether it was read.
use mathlib.Core.Path.{refl, sym}
use native.Mathlib.Omega.{arith}
use lib.Seq.{length-take-le}
use Rattle.std.proofs.lemmas.Result.{err_from_is_err_and}
use Rattle.agreement.proofs.Together.{engraving_refused, counts_fit, heads_fit, keys_fit, read_both}
use Rattle.agreement.proofs.engrave_and_read.Goals as goal

pub overflow_mul-c : goal.overflow_mul-c
overflow_mul-c c = omega (arith, counts_fit _ _ c.in_ok-size.ensures _ refl)

pub overflow_mul-k : goal.overflow_mul-k
overflow_mul-k c = omega (arith, keys_fit _ _ c.in_ok-size.ensures _ refl)

pub slice_bounds-proof_read-end : goal.slice_bounds-proof_read-end
slice_bounds-proof_read-end c = omega (arith, counts_fit _ _ c.in_ok-size.ensures _ refl)

pub slice_bounds-proof_read-end-2 : goal.slice_bounds-proof_read-end-2
slice_bounds-proof_read-end-2 c = sym (length-take-le _ _ (omega (arith, counts_fit _ _ c.in_ok-size.ensures _ refl)))

pub slice_bounds-proof_read-end-3 : goal.slice_bounds-proof_read-end-3
slice_bounds-proof_read-end-3 c = omega (arith, heads_fit _ _ c.in_ok-size.ensures _ refl)

pub slice_bounds-proof_read-end-4 : goal.slice_bounds-proof_read-end-4
slice_bounds-proof_read-end-4 c = sym (length-take-le _ _ (omega (arith, heads_fit _ _ c.in_ok-size.ensures _ refl)))

pub slice_bounds-proof_read-end-5 : goal.slice_bounds-proof_read-end-5
slice_bounds-proof_read-end-5 c = omega (arith, keys_fit _ _ c.in_ok-size.ensures _ refl)

pub slice_bounds-proof_read-end-6 : goal.slice_bounds-proof_read-end-6
slice_bounds-proof_read-end-6 c = sym (length-take-le _ _ (omega (arith, keys_fit _ _ c.in_ok-size.ensures _ refl)))

pub returns-in_err-size : goal.returns-in_err-size
returns-in_err-size c =
    let p = err_from_is_err_and c.from_residual.result c.from_residual.ensures.1 in
    rw (p.1, p.2) (engraving_refused _ _ c.in_err-size.ensures _ refl)

pub returns : goal.returns
returns c = rw c.ok.ensures.value (read_both _ _ c.in_ok-size.ensures _ refl c.proof_read-read.result c.proof_read-read.ensures)
