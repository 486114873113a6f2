-- What the steps on the way to the chords promise. w and w' are the work area before and after.
use Rattle.std.specs.Prelude.{ℕ, ◌+◌, ◌*◌, ◌≤◌, ◌<◌, true, false, List, ◌∷◌, Option, MatchOption, ◌≡◌, length, get_or}
use Rattle.rules.specs.Grid.{snapped}
use Rattle.rules.specs.RawNotes.{RawNote}
use Rattle.rules.specs.Voices.{Chord, opened, joins, join_or_open, by_falling_key, sorted_notes}
use Rattle.laws.specs.NoteWords.{end_word}
use Rattle.laws.specs.Places.{up_to, down}
use Rattle.chords.specs.Columns.{note_at, falling_at, chord_at}

-- the words from a up to b are as they were
abbrev pub Same : ℕ → ℕ → List ℕ → List ℕ → Type 0
Same a b w w' = (j : ℕ) → a ≤ j → j < b → get_or w' j 0 ≡ get_or w j 0

-- the first m notes, snapped to g: the keys that sort them in column 4, their end words in column 5
pub record SnappedTo (n m g : ℕ) (w w' : List ℕ) : Type 0 where
  pub kept : length w' ≡ length w
  pub keys : (i : ℕ) → i < m → get_or w' (4 * n + i) 0 ≡ by_falling_key (snapped g (note_at n w i))
  pub ends : (i : ℕ) → i < m → get_or w' (5 * n + i) 0 ≡ end_word (snapped g (note_at n w i))

-- the first m places of columns 0 and 1 are those of columns 5 and 4, as column 2 says
pub record Fetched (n m : ℕ) (w w' : List ℕ) : Type 0 where
  pub kept : length w' ≡ length w
  pub ends : (i : ℕ) → i < m → get_or w' i 0 ≡ get_or w (5 * n + get_or w (2 * n + i) 0) 0
  pub starts : (i : ℕ) → i < m → get_or w' (n + i) 0 ≡ get_or w (4 * n + get_or w (2 * n + i) 0) 0

-- the notes stand snapped and sorted
pub record SortedTo (n m g : ℕ) (w w' : List ℕ) : Type 0 where
  pub kept : length w' ≡ length w
  pub notes : up_to (falling_at n w') m ≡ sorted_notes g (up_to (note_at n w) m)

-- the chord at place i is c now; the other chords, and all words outside their columns, are as they were
pub record Stored (n i : ℕ) (c : Chord) (w w' : List ℕ) : Type 0 where
  pub kept : length w' ≡ length w
  pub here : chord_at n w' i ≡ c
  pub there : (j : ℕ) → j < n → (j ≡ i → ⊥) → chord_at n w' j ≡ chord_at n w j
  pub front : Same 0 (5 * n) w w'
  pub back : (j : ℕ) → 10 * n ≤ j → get_or w' j 0 ≡ get_or w j 0

-- of the first m chords the one at place i takes the note x: it joins, and none behind it
pub record Takes (n m i : ℕ) (x : RawNote) (w : List ℕ) : Type 0 where
  pub within : i < m
  pub here : joins x (chord_at n w i) ≡ true
  pub none : (j : ℕ) → i < j → j < m → joins x (chord_at n w j) ≡ false

-- the place of the chord that takes the note x; none: the note opens one
abbrev pub PlaceFor : ℕ → ℕ → RawNote → List ℕ → Option ℕ → Type 0
PlaceFor n m x w r =
    MatchOption r (join_or_open (down (chord_at n w) m) x ≡ opened x ∷ down (chord_at n w) m) (λ i. Takes n m i x w)
