-- `beats_of` meets its contract: what `from_code` and `beats` ensure, joined by the code. Assumes nothing.
use Rattle.std.proofs.lemmas.Result.{err_from_is_err_and}
use Rattle.duration.proofs.Laws.{same_code, out_of_range}
use Rattle.duration.proofs.beats_of.Goals as goal

pub returns-in_err-from_code : goal.returns-in_err-from_code
returns-in_err-from_code c =
    let p = err_from_is_err_and c.from_residual.result c.from_residual.ensures.1 in
    rw (p.1, p.2) (out_of_range _ c.args.code c.args.dots (c.in_err-from_code.ensures))

pub returns : goal.returns
returns c = rw (same_code _ c.args.code (c.in_ok-from_code.ensures)) at c.beats.ensures
