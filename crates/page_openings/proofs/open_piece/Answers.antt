-- `page_openings::open_piece` opens any piece: the refusal by 1 to 6, or what its parts give.
use mathlib.Core.Path.{sym, ap, ◌∙◌}
use Rattle.heads.specs.Answers.{count_answer}
use Rattle.page_openings.proofs.PieceOpened.{piece_refused, count_given}
use Rattle.page_openings.proofs.open_piece.Goals as goal

pub open_parts-requires : goal.open_parts-requires
open_parts-requires c =
    let given_count = count_given _ _ (ap count_answer (sym c.in-Ok.is) ∙ c.part_count.ensures) in
    record { passes = given_count.0; parts_value = given_count.1; in_bounds = c.requires }

pub returns-in-Err : goal.returns-in-Err
returns-in-Err c =
    rw (c.refused.ensures, c.from.ensures) (piece_refused _ _ _ _ _ (ap count_answer (sym c.in-Err.is) ∙ c.part_count.ensures))
