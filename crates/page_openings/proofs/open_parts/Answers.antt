-- `page_openings::open_parts` opens a piece that 1 to 6 let pass: the refusal of a part that has no room, or all parts, with the bars written.
use mathlib.Core.Path.{sym, ap, ◌∙◌}
use Rattle.basics.specs.Refusals.{number_of}
use Rattle.admission.proofs.Refused.{positive}
use Rattle.page_openings.proofs.PieceOpened.{room_refused, piece_opened}
use Rattle.page_openings.proofs.open_parts.Goals as goal

pub returns-in-Err : goal.returns-in-Err
returns-in-Err c =
    rw (c.refused.ensures, c.from.ensures) (room_refused _ _ _ _ _ c.requires.passes (sym (ap number_of c.in-Err.is) ∙ c.parts_number.ensures) (positive c.in-Err.refusal))

pub returns-in-Ok : goal.returns-in-Ok
returns-in-Ok c =
    rw c.all_parts.ensures
    (piece_opened _ _ _ c.requires.passes c.requires.parts_value (sym c.parts_number.ensures ∙ ap number_of c.in-Ok.is)
    c.requires.in_bounds.0 c.requires.in_bounds.1 c.bars.ensures)
