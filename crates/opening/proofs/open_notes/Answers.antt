-- `open_notes`: what `admission` says, then 6.
use Rattle.std.proofs.lemmas.Result.{err_from_is_err_and}
use Rattle.opening.proofs.Opening.{refused_notes, piece_admitted, no_notes, with_notes}
use Rattle.opening.proofs.open_notes.Goals as goal

pub returns-in_err-admission : goal.returns-in_err-admission
returns-in_err-admission c =
    let p = err_from_is_err_and c.from_residual.result c.from_residual.ensures.1 in
    rw (p.1, p.2) (refused_notes _ _ c.in_err-admission.ensures)

pub count_parts-parts-requires : goal.count_parts-parts-requires
count_parts-parts-requires c = (piece_admitted _ c.in_ok-admission.ensures).sizes

pub returns-then-parts-eq0 : goal.returns-then-parts-eq0
returns-then-parts-eq0 c = no_notes _ c.in_ok-admission.ensures c.count_parts-parts.ensures c.if-parts-eq0.true

pub returns : goal.returns
returns c = with_notes _ c.in_ok-admission.ensures c.count_parts-parts.ensures c.if-parts-eq0.false
