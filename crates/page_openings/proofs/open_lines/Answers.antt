-- `page_openings::open_lines` opens a text of three lines: the number of a piece that is not held whole, or the piece.
use mathlib.Core.Path.{ap, ◌∙◌, sym}
use native.Mathlib.Omega.{arith}
use Rattle.basics.specs.Refusals.{number, number_of}
use Rattle.admission.proofs.Refused.{positive, not_zero}
use Rattle.page_openings.proofs.Read.{no_piece_within, front_within, due_opens, whole_opens}
use Rattle.page_openings.proofs.open_lines.Goals as goal

pub returns-in-Err : goal.returns-in-Err
returns-in-Err c =
    let f = c.in-Err.refusal in
    let is = ap number_of c.in-Err.is in
    rw c.no_piece.ensures (record {
      within = no_piece_within _ _ _ _;
      opens = λ x h.
          let d = c.number_due.ensures.due x h in
          due_opens _ _ _ _ _ _ x (number f) (not_zero f) (sym is ∙ d.number (λ z. omega (arith, z, is, positive f)));
    })

pub open_front-requires : goal.open_front-requires
open_front-requires c = record { fit = c.number_due.ensures.fits (ap number_of c.in-Ok.is); in_bounds = c.requires.in_bounds }

pub returns-in-Ok : goal.returns-in-Ok
returns-in-Ok c =
    let whole = ap number_of c.in-Ok.is in
    record {
      within = front_within _ _ _ _ _ _ _ _ (c.number_due.ensures.fits whole) c.open_front.ensures;
      opens = λ x h.
          let d = c.number_due.ensures.due x h in
          whole_opens _ _ _ _ _ _ x _ _ (d.whole whole) c.open_front.ensures;
    }
