-- `replay_one::compare` meets its contract: six lists of the text and the work area, each against what the call left.
use native.Mathlib.Omega.{arith}
use Rattle.replay_one.proofs.Laws.{compared_is}
use Rattle.replay_one.proofs.compare.Goals as goal

pub check-answer-requires : goal.check-answer-requires
check-answer-requires c =
    c.requires.0

pub check-first-requires : goal.check-first-requires
check-first-requires c =
    omega (arith, c.requires.1, c.check-answer.auto.scratch)

pub check-second-requires : goal.check-second-requires
check-second-requires c =
    let at_check = c.check-answer in
    omega (arith, c.requires.2, at_check.auto.scratch, c.check-first.auto.scratch)

pub check-third-requires : goal.check-third-requires
check-third-requires c =
    let at_check2 = c.check-first in
    let at_check = c.check-answer in
    omega (arith, c.requires.3, at_check.auto.scratch, at_check2.auto.scratch, c.check-second.auto.scratch)

pub check-fourth-requires : goal.check-fourth-requires
check-fourth-requires c =
    let at_check3 = c.check-second in
    let at_check2 = c.check-first in
    let at_check = c.check-answer in
    omega (
      arith,
      c.requires.4,
      at_check.auto.scratch,
      at_check2.auto.scratch,
      at_check3.auto.scratch,
      c.check-third.auto.scratch,
    )

pub check-fifth-requires : goal.check-fifth-requires
check-fifth-requires c =
    let at_check_narrow = c.check-third in
    let at_check3 = c.check-second in
    let at_check2 = c.check-first in
    let at_check = c.check-answer in
    omega (
      arith,
      c.requires.5,
      at_check.auto.scratch,
      at_check2.auto.scratch,
      at_check3.auto.scratch,
      at_check_narrow.auto.scratch,
      c.check-fourth.auto.scratch,
    )

pub returns : goal.returns
returns c =
    let at_check_narrow3 = c.check-fifth in
    let at_check_narrow2 = c.check-fourth in
    let at_check_narrow = c.check-third in
    let at_check3 = c.check-second in
    let at_check2 = c.check-first in
    let at_check = c.check-answer in
    compared_is _ _ _ _ _ _ _ _ _ _ _ _ _ _ _ _ _ at_check.ensures at_check2.ensures at_check3.ensures at_check_narrow.ensures
    at_check_narrow2.ensures at_check_narrow3.ensures c.first_not_zero.ensures c.counted-zero.ensures
