-- What the steps on the way to the voices promise. w and w' are the work area before and after.
use Rattle.std.specs.Prelude.{ℕ, ◌+◌, ◌*◌, ◌≤◌, ◌<◌, ◌≡◌, length, get_or, set}
use mathlib.Core.List.{List, [], ◌∷◌, map, foldl}
use Rattle.std.specs.Int.Bits.{bit_or}
use Rattle.rules.specs.Voices as rules
use Rattle.rules.specs.Voices.{Chord, Voice, voice_end, place, no_voices}
use Rattle.laws.specs.Places.{up_to, down}
use Rattle.chords.specs.Columns.{chord_at}
use Rattle.voices.specs.declared.Choice.TheVariants.{Free, Together, Cut}
use Rattle.voices.specs.declared.Choice.{Choice}
use Rattle.voices.specs.declared.Voices.{Voices}

-- ---- choosing

-- what is known of each voice: its last chord's start and end, both 0 while it is empty, and how many chords it has
pub record Lasts : Type 0 where
  pub starts : List ℕ
  pub ends : List ℕ
  pub lens : List ℕ

-- the same from the code's three arrays
abbrev pub lasts_of : List ℕ → List ℕ → List ℕ → Lasts
lasts_of starts ends lens = record { starts = starts; ends = ends; lens = lens }

-- a choice of the code as one of the rules
abbrev pub as_choice : Choice → rules.Choice
as_choice (Free v) = rules.free v
as_choice (Together v) = rules.together v
as_choice (Cut v) = rules.cut v

-- the start of a voice's last chord; 0 of an empty voice
abbrev pub voice_start : Voice → ℕ
voice_start [] = 0
voice_start (l ∷ v) = l.start

-- what is known of the voices' last chords is right
pub record Known (l : Lasts) (vs : List Voice) : Type 0 where
  pub four : length vs ≡ 4
  pub starts : l.starts ≡ map voice_start vs
  pub ends : l.ends ≡ map voice_end vs

-- ---- the voices so far

-- the number of the chord at place j of voice v
abbrev pub number_at : ℕ → List ℕ → ℕ → ℕ → ℕ
number_at n w v j = get_or w ((10 + v) * n + j) 0

-- voice v so far, its last chord first
abbrev pub voice_at : ℕ → List ℕ → List ℕ → ℕ → Voice
voice_at n w lens v = down (λ j. chord_at n w (number_at n w v j)) (get_or lens v 0)

abbrev pub voices_at : ℕ → List ℕ → List ℕ → List Voice
voices_at n w lens = up_to (voice_at n w lens) 4

-- k chords are placed: the voices' numbers are below k, and none stands twice
pub record Cells (n k : ℕ) (lens w : List ℕ) : Type 0 where
  pub area : 16 * n ≤ length w
  pub four : length lens ≡ 4
  pub few : (v : ℕ) → v < 4 → get_or lens v 0 ≤ k
  pub below : (v j : ℕ) → v < 4 → j < get_or lens v 0 → number_at n w v j < k
  pub once : (u i v j : ℕ) → u < 4 → i < get_or lens u 0 → v < 4 → j < get_or lens v 0 → number_at n w u i ≡ number_at n w v j → (u ≡ v) × (i ≡ j)

-- chord k is the next to be placed, and what is known of the voices is right
pub record Next (n k : ℕ) (l : Lasts) (w : List ℕ) : Type 0 where
  pub room : k < n
  pub cells : Cells n k l.lens w
  pub known : Known l (voices_at n w l.lens)

-- ---- steps

-- chord k is the next of voice v
pub record Pushed (n k v start end : ℕ) (l r : Lasts) (w w' : List ℕ) : Type 0 where
  pub number : w' ≡ set w ((10 + v) * n + get_or l.lens v 0) k
  pub starts : r.starts ≡ set l.starts v start
  pub ends : r.ends ≡ set l.ends v end
  pub lens : r.lens ≡ set l.lens v (get_or l.lens v 0 + 1)

-- a chord with more keys, its mark as it was
abbrev pub with_keys : ℕ → Chord → Chord
with_keys keys c = record { start = c.start; end = c.end; keys = bit_or c.keys keys; unpitched = c.unpitched }

-- a chord cut to end at t
abbrev pub ending_at : ℕ → Chord → Chord
ending_at t c = record { start = c.start; end = t; keys = c.keys; unpitched = c.unpitched }

-- chord k is placed, and those after it stand as they did
pub record Placed (n k : ℕ) (l r : Lasts) (w w' : List ℕ) : Type 0 where
  pub kept : length w' ≡ length w
  pub voices : voices_at n w' r.lens ≡ place (voices_at n w l.lens) (chord_at n w k)
  pub coming : (i : ℕ) → k < i → i < n → chord_at n w' i ≡ chord_at n w i
  pub cells : Cells n (k + 1) r.lens w'
  pub known : Known r (voices_at n w' r.lens)

-- the first m chords are placed
pub record Spread (n m : ℕ) (r : Voices) (w w' : List ℕ) : Type 0 where
  pub kept : length w' ≡ length w
  pub voices : voices_at n w' r.lens ≡ foldl place no_voices (up_to (chord_at n w) m)
  pub cells : Cells n m r.lens w'
