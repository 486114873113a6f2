-- `page_room::part_number` refuses by 8, for the work area or for the part's items.
use Rattle.std.proofs.lemmas.Result.{err_from_is_err_and}
use Rattle.page_room.proofs.Numbers.{refused_number, many_number, no_number}
use Rattle.page_room.proofs.part_number.Goals as goal

pub returns-in_err-size : goal.returns-in_err-size
returns-in_err-size c =
    let p = err_from_is_err_and c.from_residual.result c.from_residual.ensures.1 in
    rw (p.1, p.2) (refused_number _ _ _ _ c.requires.passes c.requires.part_in_bounds _ c.in_err-size.ensures.answered)

pub returns-then-items-size : goal.returns-then-items-size
returns-then-items-size c =
    many_number _ _ _ _ c.requires.passes c.requires.part_in_bounds _ c.in_ok-size.ensures.answered c.if-items-size.true

pub returns : goal.returns
returns c = no_number _ _ _ _ c.requires.passes c.requires.part_in_bounds _ c.in_ok-size.ensures.answered c.if-items-size.false
