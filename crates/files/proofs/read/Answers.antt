-- `files::read` answers a number, or reads what was examined.
use Rattle.std.proofs.lemmas.Result.{err_from_is_err_and}
use Rattle.files.proofs.Laws.{examined_whole, examined_read}
use Rattle.files.proofs.read.Goals as goal

pub read_whole-requires : goal.read_whole-requires
read_whole-requires c = examined_whole _ c.in_ok-e.was c.examine.ensures

pub returns-in_err-e : goal.returns-in_err-e
returns-in_err-e c =
    let p = err_from_is_err_and c.from_residual.result c.from_residual.ensures.1 in
    rw (p.1, p.2) (examined_read _ c.in_err-e.was c.examine.ensures _ _ _)
