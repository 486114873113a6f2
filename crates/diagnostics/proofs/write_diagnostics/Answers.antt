-- `write_diagnostics` meets its contract: the count is known before anything is written.
use Prim.Native.Nat.{◌≤◌}
use native.Mathlib.Omega.{arith}
use Rattle.std.proofs.lemmas.Result.{err_from_is_err_and}
use lib.ListN.{length}
use Rattle.rules.specs.Refusals.{work_for}
use Rattle.opening.proofs.Opening.{piece_admitted, few_notes}
use Rattle.diagnostics.proofs.DiagnosticsOutcomes.{piece_refused, work_refused, none_written, places_refused, details_refused, all_written}
use Rattle.diagnostics.proofs.write_diagnostics.Goals as goal

pub returns-in_err-admission : goal.returns-in_err-admission
returns-in_err-admission c =
    let p = err_from_is_err_and c.from_residual.result c.from_residual.ensures.1 in
    rw (p.1, p.2) (piece_refused _ _ _ _ _ c.in_err-admission.ensures)

pub most_notes-n-requires : goal.most_notes-n-requires
most_notes-n-requires c = (piece_admitted _ c.in_ok-admission.ensures).sizes

pub work_for-requires : goal.work_for-requires
work_for-requires c =
    few_notes _ (piece_admitted _ c.in_ok-admission.ensures) c.most_notes-n.ensures

pub returns-then-work-work_for : goal.returns-then-work-work_for
returns-then-work-work_for c =
    work_refused _ _ _ _ c.in_ok-admission.ensures c.most_notes-n.ensures
    (omega (arith, c.if-work-work_for.true, c.work_for.ensures))

pub count_diagnostics-count-requires : goal.count_diagnostics-count-requires
count_diagnostics-count-requires c =
    let enough : work_for c.most_notes-n.result ≤ length c.args.work.now = omega (arith, c.if-work-work_for.false, c.work_for.ensures) in
    record {
      admitted = piece_admitted _ c.in_ok-admission.ensures;
      most = omega (arith, c.most_notes-n.ensures);
      area = omega (arith, enough);
    }

pub returns-then-count-eq0 : goal.returns-then-count-eq0
returns-then-count-eq0 c =
    let enough : work_for c.most_notes-n.result ≤ length c.args.work.now = omega (arith, c.if-work-work_for.false, c.work_for.ensures) in
    none_written _ _ _ _ c.in_ok-admission.ensures c.most_notes-n.ensures
    enough c.count_diagnostics-count.ensures.0
    (omega (arith, c.if-count-eq0.true))

pub returns-then-places-count : goal.returns-then-places-count
returns-then-places-count c =
    let enough : work_for c.most_notes-n.result ≤ length c.args.work.now = omega (arith, c.if-work-work_for.false, c.work_for.ensures) in
    places_refused _ _ _ _ c.in_ok-admission.ensures c.most_notes-n.ensures
    enough c.count_diagnostics-count.ensures.0
    (omega (arith, c.if-places-count.true))

pub returns-then-details-count : goal.returns-then-details-count
returns-then-details-count c =
    let enough : work_for c.most_notes-n.result ≤ length c.args.work.now = omega (arith, c.if-work-work_for.false, c.work_for.ensures) in
    details_refused _ _ _ _ c.in_ok-admission.ensures c.most_notes-n.ensures
    enough c.count_diagnostics-count.ensures.0
    c.if-places-count.false (omega (arith, c.if-details-count.true))

pub loss_diagnostics-requires : goal.loss_diagnostics-requires
loss_diagnostics-requires c =
    let enough : work_for c.most_notes-n.result ≤ length c.args.work.now = omega (arith, c.if-work-work_for.false, c.work_for.ensures) in
    let counted = c.count_diagnostics-count.ensures.0 in (
      record {
        admitted = piece_admitted _ c.in_ok-admission.ensures;
        most = omega (arith, c.most_notes-n.ensures);
        area = omega (arith, enough, c.count_diagnostics-count.auto.work);
      },
      omega (arith, counted, c.if-places-count.false),
      omega (arith, counted, c.if-details-count.false),
    )

pub overflow_cast-result : goal.overflow_cast-result
overflow_cast-result c =
    omega (arith, c.count_diagnostics-count.ensures.1)

pub returns : goal.returns
returns c =
    let enough : work_for c.most_notes-n.result ≤ length c.args.work.now = omega (arith, c.if-work-work_for.false, c.work_for.ensures) in
    all_written _ _ _ _ c.in_ok-admission.ensures c.most_notes-n.ensures
    enough c.count_diagnostics-count.ensures.0
    c.if-places-count.false c.if-details-count.false c.loss_diagnostics.ensures.places c.loss_diagnostics.ensures.details
