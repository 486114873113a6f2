-- A raw note as two words of a work area: start and key, end and channel. Keys are below 128, channels below 16.
use Rattle.std.specs.Prelude.{ℕ, ◌+◌, ◌*◌, ◌<◌, ◌≤◌, List, map, ◌≡◌, length, take}
use Rattle.rules.specs.RawNotes.{RawNote}
use Rattle.laws.specs.Parts.{part}

abbrev pub start_word : RawNote → ℕ
start_word n = n.start * 128 + n.key

abbrev pub end_word : RawNote → ℕ
end_word n = n.end * 16 + n.channel

-- notes stand in a work area of columns of n words: their ends in column 0, their starts in column 1
pub record NotesIn (ns : List RawNote) (n count : ℕ) (w : List ℕ) : Type 0 where
  pub all : count ≡ length ns
  pub room : length ns ≤ n
  pub ends : take count (part 0 n w) ≡ map end_word ns
  pub starts : take count (part n n w) ≡ map start_word ns

-- the ranges of a note's fields
pub record InRange (limit : ℕ) (m : RawNote) : Type 0 where
  pub start : m.start < limit
  pub end : m.end ≤ limit
  pub key : m.key < 128
  pub channel : m.channel < 16
