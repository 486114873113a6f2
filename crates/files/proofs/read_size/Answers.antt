-- `files::read_size` answers what was examined.
use native.Mathlib.Omega.{arith}
use Rattle.std.proofs.lemmas.Result.{err_from_is_err_and}
use Rattle.files.proofs.Laws.{examined_whole, examined_size, size_given}
use Rattle.files.proofs.read_size.Goals as goal

pub overflow_add-result : goal.overflow_add-result
overflow_add-result c =
    let w = examined_whole _ c.in_ok-e.was c.examine.ensures in
    omega (arith, w.few)

pub returns-in_err-e : goal.returns-in_err-e
returns-in_err-e c =
    let p = err_from_is_err_and c.from_residual.result c.from_residual.ensures.1 in
    rw (p.1, p.2) (examined_size _ c.in_err-e.was c.examine.ensures)

pub returns : goal.returns
returns c = size_given _ _ (examined_whole _ c.in_ok-e.was c.examine.ensures)
