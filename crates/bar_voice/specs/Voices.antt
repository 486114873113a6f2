-- A voice in a bar: the chords that stand in the work area, and where the walk along them is.
use Rattle.std.specs.Prelude.{ℕ, ◌+◌, ◌-◌, ◌*◌, ◌≤◌, ◌<◌, max, Bool, false, cond, ◌||◌, List, [], ◌++◌, length, get_or, take}
use Rattle.rules.specs.Lists.{All, any, keep}
use Rattle.rules.specs.Items.{Item}
use Rattle.rules.specs.Staff.{rests, chord_in, sounds_in, filled, rests_left, chord_left, filled_left}
use Rattle.rules.specs.Voices.{Chord}
use Rattle.laws.specs.Lines.{Line}
use Rattle.laws.specs.Places.{up_to}
use Rattle.chords.specs.Columns.{chord_at}
use Rattle.voices.specs.Placing.{number_at}

-- ---- in the work area

-- the m chords of voice v: their numbers in column 10 + v, their words in columns 5 to 9
abbrev pub voice_of : ℕ → List ℕ → ℕ → ℕ → List Chord
voice_of n w v m = up_to (λ j. chord_at n w (number_at n w v j)) m

-- they stand in the work area, one after the other
pub record VoiceHeld (n : ℕ) (w : List ℕ) (v m : ℕ) : Type 0 where
  pub four : v < 4
  pub area : 16 * n ≤ length w
  pub room : m ≤ n
  pub numbers : (j : ℕ) → j < m → number_at n w v j < n
  pub line : Line 1 0 (voice_of n w v m)

-- ---- the walk along a voice

-- a place behind the last chord
abbrev pub no_chord : Chord
no_chord = record { start = 0; end = 0; keys = 0; unpitched = false }

abbrev pub chord_of : List Chord → ℕ → Chord
chord_of cs j = get_or cs j no_chord

-- the first i chords are over at tick t
pub record Past (t : ℕ) (cs : List Chord) (i : ℕ) : Type 0 where
  pub within : i ≤ length cs
  pub over : All (λ (c : Chord). c.end ≤ t) (take i cs)

-- and chord i is not
pub record Skipped (t : ℕ) (cs : List Chord) (i : ℕ) : Type 0 where
  pub past : Past t cs i
  pub here : i < length cs → t < (chord_of cs i).end

-- ---- items

-- the chords that sound from tick b to tick e, with rests for the gaps
abbrev pub filled_from : ℕ → ℕ → ℕ → List Chord → List Item
filled_from p b e cs = filled p b e b (keep (sounds_in b e) cs)

-- section 7's `voice_in`, of a bar from b to e
abbrev pub voice_from : ℕ → Bool → ℕ → ℕ → List Chord → List Item
voice_from p is_first b e cs = cond (is_first || any (sounds_in b e) cs) (filled_from p b e cs) []

-- rests up to a chord, and the chord
unfoldable pub gap_and_chord : ℕ → ℕ → ℕ → ℕ → Chord → List Item
gap_and_chord p b e t c = rests p (max b c.start - t) ++ chord_in p b e c

-- ---- leftovers: of the same chords and gaps

abbrev pub filled_left_from : ℕ → ℕ → ℕ → List Chord → ℕ
filled_left_from p b e cs = filled_left p b e b (keep (sounds_in b e) cs)

-- section 7's `voice_left`, of a bar from b to e
abbrev pub voice_left_from : ℕ → Bool → ℕ → ℕ → List Chord → ℕ
voice_left_from p is_first b e cs = cond (is_first || any (sounds_in b e) cs) (filled_left_from p b e cs) 0

unfoldable pub gap_and_chord_left : ℕ → ℕ → ℕ → ℕ → Chord → ℕ
gap_and_chord_left p b e t c = rests_left p (max b c.start - t) + chord_left p b e c
