-- How the four voices stand in the work area when all is done: what the engraver reads.
use Rattle.std.specs.Prelude.{ℕ, ◌+◌, ◌*◌, ◌^◌, ◌≤◌, ◌<◌, List, [], map, ◌≡◌, length, get_or, take}
use Rattle.rules.specs.Lists.{All}
use Rattle.rules.specs.RawNotes.{RawNote}
use Rattle.rules.specs.Voices.{Chord}
use Rattle.laws.specs.NoteWords.{NotesIn, InRange}
use Rattle.laws.specs.Parts.{part}
use Rattle.chords.specs.Columns.{chord_at}
use Rattle.voices.specs.declared.Voices.{Voices}

-- the numbers of the chords of voice v, in order: the first of column 10 + v
abbrev pub numbers_of : ℕ → List ℕ → Voices → ℕ → List ℕ
numbers_of n w r v = take (get_or r.lens v 0) (part ((10 + v) * n) n w)

-- The work area w, of columns of n words, holds the four voices vs: voice v has as many chords as the answer r says, their numbers stand
-- in column 10 + v, and each number leads to its chord's words in columns 5 to 9 (`chord_at`), with keys given and ends cut.
pub record VoicesIn (vs : List (List Chord)) (n : ℕ) (r : Voices) (w : List ℕ) : Type 0 where
  pub lens : (v : ℕ) → v < 4 → get_or r.lens v 0 ≡ length (get_or vs v [])
  pub chords : (v : ℕ) → v < 4 → map (chord_at n w) (numbers_of n w r v) ≡ get_or vs v []
  -- for safety: no more than n chords, numbers below n, starts and ends below 2 ^ 48
  pub room : (v : ℕ) → v < 4 → get_or r.lens v 0 ≤ n
  pub numbers : (v : ℕ) → v < 4 → All (λ i. i < n) (numbers_of n w r v)
  pub small : (v : ℕ) → v < 4 → All (λ (c : Chord). (c.start < 2 ^ 48) × (c.end < 2 ^ 48)) (get_or vs v [])

-- some notes, in range, stand in the work area
pub record Held (n m : ℕ) (w : List ℕ) : Type 0 where
  pub notes : List RawNote
  pub stand : NotesIn notes n m w
  pub in_range : All (InRange (2 ^ 47)) notes
