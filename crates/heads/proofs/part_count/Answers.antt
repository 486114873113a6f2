-- `part_count`: the count that opening the piece gives.
use mathlib.Core.Path.{sym, ap, ◌∙◌}
use native.Mathlib.Omega.{arith}
use Rattle.std.proofs.lemmas.Result.{err_from_is_err_and}
use Rattle.rules.specs.Refusals.{given, note_refusals}
use Rattle.laws.proofs.Refusals.{passes_given}
use Rattle.opening.proofs.Opening.{refuses_last, notes_pass, few_parts}
use Rattle.heads.proofs.part_count.Goals as goal

pub returns-in_err-parts : goal.returns-in_err-parts
returns-in_err-parts c =
    let p = err_from_is_err_and c.from_residual.result c.from_residual.ensures.1 in
    rw (p.1, p.2) (sym (refuses_last (note_refusals _) _ c.in_err-parts.ensures.number _))

pub overflow_cast-result : goal.overflow_cast-result
overflow_cast-result c = omega (arith, few_parts _ c.in_ok-parts.ensures)

pub returns : goal.returns
returns c = ap given c.in_ok-parts.ensures.parts ∙ sym (passes_given _ _ (notes_pass _ c.in_ok-parts.ensures))
