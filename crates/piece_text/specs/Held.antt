-- What the arrays hold of a text's numbers, and what is answered at its end.
use Rattle.std.specs.Prelude.{ℕ, ◌≤◌, ◌<◌, ◌^◌, List, ◌≡◌, length, take}
use Rattle.std.proofs.Math.Option.{Option, none, some}
use Rattle.std.specs.Prelude.{Some, None}
use Rattle.std.specs.Prelude as std
use Rattle.rules.specs.Piece.{Piece, piece}
use Rattle.rules.specs.Refusals.{first_number, piece_refusals}
use Rattle.piece_text.specs.declared.Counts.{Counts}
use Rattle.piece_text.specs.declared.Reader.{Reader}
use Rattle.piece_text.specs.Text.{Reading}

-- where counting stops: more than 65,535 counts of 32 bits can add up to
abbrev pub most_counted : ℕ
most_counted = 2 ^ 50

-- n counts a list of this length, as far as counting goes
pub record Counted (n len : ℕ) : Type 0 where
  pub within : n ≤ len
  pub exact : n < most_counted → n ≡ len

-- n counts the list l, and the array xs starts with as much of it as it has room for
pub record Held (l : List ℕ) (n : ℕ) (xs : List ℕ) : Type 0 where
  pub counted : Counted n (length l)
  pub start : take n xs ≡ take (length xs) (take n l)

-- so of a piece's three lists
pub record PieceHeld (x : Piece) (c : Counts) (ss ds ws : List ℕ) : Type 0 where
  pub sizes : Held x.sizes c.sizes ss
  pub deltas : Held x.deltas c.deltas ds
  pub words : Held x.words c.words ws

-- the reader is where the reading is
pub record ReadingHeld (a : Reading) (r : Reader) (ss ds ws : List ℕ) : Type 0 where
  pub at : r.at ≡ a.at
  pub numbers : PieceHeld a.numbers r.counts ss ds ws

-- the answer is right for a text's piece
unfoldable pub Answers : Option Piece → std.Option Counts → List ℕ → List ℕ → List ℕ → Type 0
Answers none None ss ds ws = Unit {0}
Answers none (Some c) ss ds ws = ⊥
Answers (some x) None ss ds ws = ⊥
Answers (some x) (Some c) ss ds ws = PieceHeld x c ss ds ws

-- the arrays have room for all
pub record Fit (c : Counts) (ss ds ws : List ℕ) : Type 0 where
  pub sizes : c.sizes ≤ length ss
  pub deltas : c.deltas ≤ length ds
  pub words : c.words ≤ length ws

-- The number due: 0 where the arrays hold the whole piece; else that of document 01.
pub record Due (x : Piece) (c : Counts) (ss ds ws : List ℕ) (r : ℕ) : Type 0 where
  pub whole : r ≡ 0 → x ≡ piece (take c.sizes ss) (take c.deltas ds) (take c.words ws)
  pub number : (r ≡ 0 → ⊥) → r ≡ first_number (piece_refusals x)
