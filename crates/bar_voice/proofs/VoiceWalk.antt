-- The chords of a voice in the work area, one by one, and those that are over.
use Prim.Native.Nat.{ℕ, ◌+◌, ◌*◌, ◌≤◌, ◌<◌}
use mathlib.Core.List.{List, [], ◌∷◌}
use mathlib.Core.Path.{◌≡◌}
use native.Mathlib.Numerals.{add-one}
use native.Mathlib.Omega.{arith}
use lib.ListN.{length, take}
use lib.Seq.{take-suc}
use Rattle.rules.specs.Voices.{Chord}
use Rattle.laws.proofs.Lists.{All-append, All-imp}
use Rattle.chords.specs.Columns.{chord_at}
use Rattle.laws.proofs.Places.{up_to_length, up_to_get}
use Rattle.voices.specs.Placing.{number_at}
use Rattle.bar_voice.specs.Voices.{voice_of, VoiceHeld, no_chord, chord_of, Past}

-- ---- in the work area

module _ (n : ℕ) (w : List ℕ) (v m : ℕ) where
  pub voice_length : length (voice_of n w v m) ≡ m
  voice_length = up_to_length (λ j. chord_at n w (number_at n w v j)) m

  pub voice_get : (j : ℕ) → j < m → chord_of (voice_of n w v m) j ≡ chord_at n w (number_at n w v j)
  voice_get j h = up_to_get (λ j. chord_at n w (number_at n w v j)) m j no_chord h

-- what `voice_chord` asks
pub can_read : {n : ℕ} {w : List ℕ} {v m : ℕ} → VoiceHeld n w v m → (j : ℕ) → j < m
    → (16 * n ≤ length w) × (v < 4) × (j < n) × (number_at n w v j < n)
can_read l j h = (l.area, l.four, omega (arith, l.room), l.numbers j h)

-- ---- chords that are over

module _ {t : ℕ} {cs : List Chord} {i : ℕ} (p : Past t cs i) where
  pub past_more : i < length cs → (chord_of cs i).end ≤ t → Past t cs (i + 1)
  past_more h over =
      record {
        within = omega arith;
        over = rw (add-one, take-suc cs i no_chord h) (All-append (λ (c : Chord). c.end ≤ t) (take i cs) (chord_of cs i ∷ []) p.over (over, tt));
      }

  pub past_later : {u : ℕ} → t ≤ u → Past u cs i
  past_later {u} h = record { within = p.within; over = All-imp (λ (c : Chord) (o : c.end ≤ t). omega arith) (take i cs) p.over }

pub past_none : (t : ℕ) (cs : List Chord) → Past t cs 0
past_none t cs = record { within = omega arith; over = tt }
