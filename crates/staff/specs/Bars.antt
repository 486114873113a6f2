-- The staff, bar by bar.
use Rattle.std.specs.Prelude.{ℕ, ◌+◌, ◌-◌, ◌*◌, ◌≤◌, ◌<◌, ◌^◌, Bool, true, ◌≡◌, eqb, length, get_or}
use mathlib.Core.List.{List, [], ◌∷◌, map, flatten}
use Rattle.rules.specs.Items.{Item}
use Rattle.rules.specs.Voices.{Chord}
use Rattle.laws.specs.Places.{up_to}
use Rattle.items.specs.declared.Measure.{Measure}
use Rattle.items.specs.Putting.{Put}
use Rattle.items.specs.Writing.{Items, Room}
use Rattle.staff.specs.declared.Engraving.{Engraving}
use Rattle.staff.specs.declared.Reached.{Reached}
use Rattle.bar_voice.specs.Voices.{voice_of, VoiceHeld, Past, voice_from, voice_left_from}

-- ---- one voice

pub record CanCount
    (write : Bool) (p : ℕ) (is_first : Bool) (cs : List Chord) (next : ℕ) (bar : Measure) (place from : ℕ) (counts heads keys leftovers : List ℕ)
    : Type 0 where
  pub some_bar : bar.start < bar.end
  pub short : bar.end - bar.start < 2 ^ 32
  pub past : Past bar.start cs next
  pub counts_fit : write ≡ true → place < length counts
  pub leftovers_fit : write ≡ true → place < length leftovers
  pub room : Room write (length (voice_from p is_first bar.start bar.end cs)) from heads keys

-- the voice's items are written, their count, and what they leave of the bar
pub record Counted
    (write : Bool) (p : ℕ) (is_first : Bool) (cs : List Chord) (bar : Measure) (place from : ℕ)
    (counts₀ heads₀ keys₀ leftovers₀ counts₁ heads₁ keys₁ leftovers₁ : List ℕ) (r : Reached)
    : Type 0 where
  pub past : Past bar.start cs r.next
  pub items : Items write (voice_from p is_first bar.start bar.end cs) from heads₀ keys₀ heads₁ keys₁ r.at
  pub counts : Put write (length (voice_from p is_first bar.start bar.end cs) ∷ []) place counts₀ counts₁
  pub leftovers : Put write (voice_left_from p is_first bar.start bar.end cs ∷ []) place leftovers₀ leftovers₁

-- ---- four voices

-- the four voices that stand in the work area
abbrev pub voices_of : ℕ → List ℕ → List ℕ → List (List Chord)
voices_of n w lens = up_to (λ v. voice_of n w v (get_or lens v 0)) 4

abbrev pub VoicesHeld : ℕ → List ℕ → List ℕ → Type 0
VoicesHeld n w lens = (v : ℕ) → v < 4 → VoiceHeld n w v (get_or lens v 0)

-- section 7's `voices_in` of them, in a bar from b to e
abbrev pub bar_voice : ℕ → ℕ → List ℕ → List ℕ → ℕ → ℕ → ℕ → List Item
bar_voice p n w lens b e v = voice_from p (eqb v 0) b e (voice_of n w v (get_or lens v 0))

abbrev pub bar_voices : ℕ → ℕ → List ℕ → List ℕ → ℕ → ℕ → List (List Item)
bar_voices p n w lens b e = up_to (bar_voice p n w lens b e) 4

-- and its `voices_left`
abbrev pub bar_left : ℕ → ℕ → List ℕ → List ℕ → ℕ → ℕ → ℕ → ℕ
bar_left p n w lens b e v = voice_left_from p (eqb v 0) b e (voice_of n w v (get_or lens v 0))

abbrev pub bar_lefts : ℕ → ℕ → List ℕ → List ℕ → ℕ → ℕ → List ℕ
bar_lefts p n w lens b e = up_to (bar_left p n w lens b e) 4

-- each voice's next chord is such that those before it are over
abbrev pub AllPast : ℕ → List ℕ → List ℕ → ℕ → List ℕ → Type 0
AllPast n w lens t nexts = (v : ℕ) → v < 4 → Past t (voice_of n w v (get_or lens v 0)) (get_or nexts v 0)

-- a staff so far, of its parts
abbrev pub engraving : ℕ → ℕ → List ℕ → Engraving
engraving bars items nexts = record { bars = bars; items = items; nexts = nexts }

-- a bar can be written behind s
pub record CanPush (write : Bool) (p n : ℕ) (w lens : List ℕ) (bar : Measure) (s : Engraving) (counts heads keys leftovers : List ℕ) : Type 0 where
  pub some_bar : bar.start < bar.end
  pub short : bar.end - bar.start < 2 ^ 32
  pub four : length s.nexts ≡ 4
  pub nexts : AllPast n w lens bar.start s.nexts
  pub few : s.bars < 2 ^ 32
  pub counts_fit : write ≡ true → 4 * s.bars + 4 ≤ length counts
  pub leftovers_fit : write ≡ true → 4 * s.bars + 4 ≤ length leftovers
  pub room : Room write (length (flatten (bar_voices p n w lens bar.start bar.end))) s.items heads keys

-- the bar is written
pub record BarPut
    (write : Bool) (p n : ℕ) (w lens : List ℕ) (bar : Measure) (s : Engraving)
    (counts₀ heads₀ keys₀ leftovers₀ counts₁ heads₁ keys₁ leftovers₁ : List ℕ) (r : Engraving)
    : Type 0 where
  pub bars : r.bars ≡ s.bars + 1
  pub four : length r.nexts ≡ 4
  pub nexts : AllPast n w lens bar.start r.nexts
  pub items : Items write (flatten (bar_voices p n w lens bar.start bar.end)) s.items heads₀ keys₀ heads₁ keys₁ r.items
  pub counts : Put write (map length (bar_voices p n w lens bar.start bar.end)) (4 * s.bars) counts₀ counts₁
  pub leftovers : Put write (bar_lefts p n w lens bar.start bar.end) (4 * s.bars) leftovers₀ leftovers₁
