-- What was read from standard input. No contract can say which bytes it gave, so these say: there are bytes, and what is held is right for them.
use Rattle.std.specs.Prelude.{ℕ, List, Option}
use Rattle.piece_text.specs.Text.{read_on, nothing_read, text_piece}
use Rattle.piece_text.specs.Held.{ReadingHeld, Answers}
use Rattle.piece_text.specs.declared.Reader.{Reader}
use Rattle.piece_text.specs.declared.Counts.{Counts}
use Rattle.piece_input.specs.declared.Turn.{Turn}
use Rattle.piece_input.specs.declared.Turn.TheVariants.{More, End}

-- so far some bytes were read
pub record SoFar (r : Reader) (ss ds ws : List ℕ) : Type 0 where
  pub bytes : List ℕ
  pub held : ReadingHeld (read_on nothing_read bytes) r ss ds ws

-- a text was read
pub record ReadText (t : Option Counts) (ss ds ws : List ℕ) : Type 0 where
  pub bytes : List ℕ
  pub held : Answers (text_piece bytes) t ss ds ws

-- the reader behind a turn
abbrev pub reader_of : Turn → Reader
reader_of (More r) = r
reader_of (End r) = r
