-- What each call on a file leaves, by its number: its answer as numbers, and the piece in the arrays that are lent to it.
use Rattle.std.specs.Prelude.{ℕ, cond, List, [], ◌∷◌, eqb, length}
use Rattle.rules.specs.Lists.{written}
use Rattle.rules.specs.Refusals.{Result, answers, writes}
use Rattle.rules.specs.Piece.{Piece}
use Rattle.rules.specs.Calls.{PieceSize, piece_size, read_size_call, read_call}
use Rattle.replay_answers.specs.Numbers.{saying}

-- the numbers of the answer and the arrays, before a call or after it
pub record Left : Type 0 where
  pub said : List ℕ
  pub sizes : List ℕ
  pub deltas : List ℕ
  pub words : List ℕ

abbrev pub left : (said sizes deltas words : List ℕ) → Left
left said sizes deltas words = record { said = said; sizes = sizes; deltas = deltas; words = words }

-- the values of an answer, behind its 0
abbrev pub piece_numbers : PieceSize → List ℕ
piece_numbers s = s.sizes ∷ s.events ∷ []

-- ---- what is left, by a call's outcome and what was lent

abbrev pub size_left : Result PieceSize → Left → Left
size_left r l =
    record { said = saying piece_numbers l.said r; sizes = l.sizes; deltas = l.deltas; words = l.words }

abbrev pub read_left : Result Piece → Left → Left
read_left r l =
    record {
      said = saying piece_numbers l.said (answers piece_size r);
      sizes = written (writes (λ (x : Piece). x.sizes) r) l.sizes;
      deltas = written (writes (λ (x : Piece). x.deltas) r) l.deltas;
      words = written (writes (λ (x : Piece). x.words) r) l.words;
    }

-- What a call leaves, by its number, the file's bytes and what was lent. No other number changes anything.
unfoldable pub outcome : ℕ → List ℕ → Left → Left
outcome code bytes l =
    cond (eqb code 9) (size_left (read_size_call bytes) l)
    (cond (eqb code 10) (read_left (read_call bytes (length l.sizes) (length l.deltas) (length l.words)) l) l)
