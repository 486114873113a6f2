-- `page_openings::open_bytes` opens a file that is held whole: its own number, or the piece that it was read as.
use mathlib.Core.Path.{sym, ap}
use Rattle.files.specs.Answers.{piece_answer}
use Rattle.page_openings.proofs.Files.{bytes_refused, bytes_fit, bytes_open}
use Rattle.page_openings.proofs.Read.{no_piece_within, front_within}
use Rattle.page_openings.proofs.open_bytes.Goals as goal

pub open_front-requires : goal.open_front-requires
open_front-requires c =
    let a = c.requires in
    record { fit = bytes_fit _ a.in_bounds.0 a.in_bounds.1 a.in_bounds.2 c.read.ensures _ (ap piece_answer (sym c.in-Ok.is)); in_bounds = a.in_bounds_2 }

pub returns-in-Err : goal.returns-in-Err
returns-in-Err c =
    let a = c.requires in
    rw c.no_piece.ensures (record {
      within = no_piece_within _ _ _ _;
      opens = bytes_refused _ a.in_bounds.0 a.in_bounds.1 a.in_bounds.2 c.read.ensures _ _ _ _ (ap piece_answer (sym c.in-Err.is));
    })

pub returns-in-Ok : goal.returns-in-Ok
returns-in-Ok c =
    let a = c.requires in
    let is_given = ap piece_answer (sym c.in-Ok.is) in record {
      within = front_within _ _ _ _ _ _ _ _ (bytes_fit _ a.in_bounds.0 a.in_bounds.1 a.in_bounds.2 c.read.ensures _ is_given)
          c.open_front.ensures;
      opens = bytes_open _ a.in_bounds.0 a.in_bounds.1 a.in_bounds.2 c.read.ensures _ is_given _ _ _ _ c.open_front.ensures;
    }
