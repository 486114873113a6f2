-- Raw notes in the work area. A raw note is two words, each in a column of n words.
use Rattle.std.specs.Prelude.{ℕ, ◌*◌, ◌≤◌, List, map, ◌≡◌, length, take}
use Rattle.rules.specs.Piece.{Event}
use Rattle.rules.specs.RawNotes.{RawNote, raw_notes}
use Rattle.laws.specs.NoteWords.{start_word, end_word}
use Rattle.laws.specs.Parts.{part}

-- the first r words of the columns from a and from b on are the end words and the start words of the notes
pub record Words (a b n r : ℕ) (w : List ℕ) (ns : List RawNote) : Type 0 where
  pub count : r ≡ length ns
  pub room : r ≤ n
  pub ends : take r (part a n w) ≡ map end_word ns
  pub starts : take r (part b n w) ≡ map start_word ns

-- The raw notes of a track: end words in column 0, start words in column 1.
pub record Noted (es : List Event) (n r : ℕ) (w : List ℕ) : Type 0 where
  pub count : r ≡ length (raw_notes es)
  pub room : r ≤ n
  pub ends : take r (part 0 n w) ≡ map end_word (raw_notes es)
  pub starts : take r (part n n w) ≡ map start_word (raw_notes es)

-- Notes as they close: start words in column 2, end words in column 3.
abbrev pub Listed : ℕ → ℕ → List ℕ → List RawNote → Type 0
Listed n r w ns = Words (3 * n) (2 * n) n r w ns
