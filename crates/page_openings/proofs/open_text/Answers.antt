-- `page_openings::open_text` opens a text: number 1 where it is no piece, else what its lines give.
use Rattle.piece_text.specs.Text.{text_piece}
use Rattle.page_openings.proofs.Read.{no_piece_within, bad_opens, lines_open}
use Rattle.page_openings.proofs.open_text.Goals as goal

pub returns-in-None : goal.returns-in-None
returns-in-None c =
    rw c.no_piece.ensures
    (record { within = no_piece_within _ _ _ _; opens = λ bs h. bad_opens _ _ _ _ _ _ (text_piece bs) (rw c.in-None.is at h) })

pub returns-in-Some : goal.returns-in-Some
returns-in-Some c =
    record {
      within = c.open_lines.ensures.within;
      opens = λ bs h. lines_open _ _ _ _ _ _ (text_piece bs) _ _ c.open_lines.ensures.opens (rw c.in-Some.is at h);
    }
