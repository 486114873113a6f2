-- `measure_part`: the part's number, or the size of the staff of its voices.
use mathlib.Core.Path.{sym}
use Rattle.std.proofs.lemmas.Result.{err_from_is_err_and}
use Rattle.opening.proofs.Opening.{cut_deltas, cut_words}
use Rattle.staffs.proofs.Parts.{can_engrave, size_given}
use Rattle.staffs.proofs.measure_part.Goals as goal

pub returns-in_err-v : goal.returns-in_err-v
returns-in_err-v c =
    let p = err_from_is_err_and c.from_residual.result c.from_residual.ensures.1 in
    rw (p.1, p.2) (sym c.in_err-v.ensures.no_size)

pub cut-first_deltas-requires : goal.cut-first_deltas-requires
cut-first_deltas-requires c = cut_deltas c.in_ok-v.ensures.ready.source.first

pub cut-first_words-requires : goal.cut-first_words-requires
cut-first_words-requires c = cut_words c.in_ok-v.ensures.ready.source.first

pub measure_staff-measured-requires : goal.measure_staff-measured-requires
measure_staff-measured-requires c = can_engrave c.in_ok-v.ensures.ready c.cut-first_deltas.ensures c.cut-first_words.ensures

pub returns : goal.returns
returns c = size_given c.in_ok-v.ensures.ready c.cut-first_deltas.ensures c.cut-first_words.ensures c.measure_staff-measured.ensures
