-- `page_openings::open_part` opens the next part: engraving is not refused, and the same lines are ahead.
use mathlib.Core.Path.{sym, ap}
use native.Mathlib.Omega.{arith}
use borrow.Author.Rules.{rules}
use Rattle.staffs.specs.Parts.{answer_of}
use Rattle.pages.proofs.Staffs.{part_ahead}
use Rattle.page_openings.proofs.PartOpened.{not_refused, part_opened, opened_small}
use Rattle.page_openings.proofs.open_part.Goals as goal

pub overflow_add-result : goal.overflow_add-result
overflow_add-result c = omega (arith, c.requires.number_value.2)

pub returns-in-Err : goal.returns-in-Err
returns-in-Err c =
    let a = c.requires in
    absurd
    (not_refused part_ahead _ c.args.place a.ready a.rooms (search rules) a.number_value.0 a.number_value.1 a.number_value.2
    c.engrave.ensures _
    (ap answer_of (sym c.in-Err.is)))

pub returns-in-Ok : goal.returns-in-Ok
returns-in-Ok c =
    let a = c.requires in
    rw (c.begin.ensures, c.ticks_per_quarter-p.ensures)
    (part_opened part_ahead _ c.args.place a.ready a.rooms (search rules) a.number_value.0 a.number_value.1 a.number_value.2
    c.engrave.ensures
    (opened_small _ a.ready a.number_value.2) _ (ap answer_of (sym c.in-Ok.is)))
