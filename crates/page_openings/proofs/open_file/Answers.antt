-- `page_openings::open_file` opens a file of which so many bytes were read: 11, 8, or what its bytes give.
use native.Mathlib.Omega.{arith}
use Rattle.page_openings.proofs.Files.{too_large, not_held, all_held}
use Rattle.page_openings.proofs.Read.{no_piece_within}
use Rattle.page_openings.proofs.open_file.Goals as goal

pub returns-then-read-gt-MOST_BYTES : goal.returns-then-read-gt-MOST_BYTES
returns-then-read-gt-MOST_BYTES c = rw c.no_piece.ensures (record {
  within = no_piece_within _ _ _ _;
  opens = λ bs h. too_large bs _ _ _ _ _ _ _ _ _ h c.if-read-gt-MOST_BYTES.true;
})

pub returns-then-most-read : goal.returns-then-most-read
returns-then-most-read c =
    rw c.no_piece-then-most-read.ensures
    (record {
      within = no_piece_within _ _ _ _;
      opens = λ bs h. not_held bs _ _ _ _ _ _ _ _ _ h (omega (arith, c.if-read-gt-MOST_BYTES.false)) c.if-most-read.true;
    })

pub returns : goal.returns
returns c =
    record {
      within = c.open_bytes.ensures.within;
      opens = λ bs h.
          all_held bs _ _ _ _ _ _ _ _ _ h (omega (arith, c.if-read-gt-MOST_BYTES.false)) _ (omega (arith, c.if-most-read.false)) c.open_bytes.ensures.opens;
    }
