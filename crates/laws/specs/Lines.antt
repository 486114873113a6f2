-- What a voice of chords and a row of bars are, so that the voice can be engraved in the bars.
use Rattle.std.specs.Prelude.{ℕ, ◌≤◌, ◌<◌, List, [], ◌∷◌, ◌⊎◌, ◌≡◌}
use Rattle.std.specs.Int.{◌∣◌}
use Rattle.rules.specs.Lists.{Some}
use Rattle.rules.specs.RawNotes.{RawNote}
use Rattle.rules.specs.Bars.{Bar, bar_end}
use Rattle.rules.specs.ProofReader.{HasKey}
use Rattle.rules.specs.Voices.{Chord}

-- a chord that has a length and a key, its start and end multiples of u
pub record Sound (u : ℕ) (c : Chord) : Type 0 where
  pub long : c.start < c.end
  pub starts : u ∣ c.start
  pub ends : u ∣ c.end
  pub keyed : 0 < c.keys

-- chords one after the other, the first at tick a or later
abbrev pub Line : ℕ → ℕ → List Chord → Type 0
Line u a [] = Unit {0}
Line u a (c ∷ cs) = (a ≤ c.start) × Sound u c × Line u c.end cs

-- each of some keys is that of a note of start a; ns are snapped notes
abbrev pub KeysNoted : List RawNote → ℕ → ℕ → Type 0
KeysNoted ns a keys = (k : ℕ) → HasKey k keys → Some (λ (n : RawNote). (n.start ≡ a) × (n.key ≡ k)) ns

-- each chord ends with a note of its start, or where its voice's next chord starts; ns are snapped notes
abbrev pub EndsNoted : List RawNote → Chord → Type 0
EndsNoted ns c = Some (λ (n : RawNote). (n.start ≡ c.start) × (n.end ≡ c.end)) ns

abbrev pub Closed : List RawNote → List Chord → Type 0
Closed ns [] = Unit {0}
Closed ns (c ∷ []) = EndsNoted ns c
Closed ns (c ∷ d ∷ cs) = (EndsNoted ns c ⊎ (c.end ≡ d.start)) × Closed ns (d ∷ cs)

-- bars that follow one another from tick t, each with a length
abbrev pub Consecutive : ℕ → List Bar → Type 0
Consecutive t [] = Unit {0}
Consecutive t (b ∷ bs) = (b.start ≡ t) × (0 < b.len) × Consecutive (bar_end b) bs
