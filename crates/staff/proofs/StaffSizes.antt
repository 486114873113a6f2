-- Staffs by their bars: one bar more, and how many items there are.
use Prim.Native.Nat.{ℕ, suc, ◌+◌, ◌-◌, ◌*◌, ◌≤◌, ◌<◌}
use mathlib.Core.List.{List, [], ◌∷◌, ◌++◌, map, flatten, map-append, append-nil}
use mathlib.Core.Logic.{inl, inr}
use mathlib.Core.Path.{◌≡◌, refl}
use native.Mathlib.Omega.{arith}
use lib.Dec.{eqb}
use lib.ListN.{length, get_or, length-append, length-map}
use Rattle.rules.specs.Bars.{Bar, bar_end}
use Rattle.rules.specs.Items.{Item, items_of, arrays_of}
use Rattle.rules.specs.Staff.{voice_in, voices_in, staff_of, voice_left, voices_left, leftovers_of}
use Rattle.rules.specs.Voices.{Chord}
use Rattle.laws.specs.Lines.{Line}
use Rattle.laws.specs.Sort.{count}
use Rattle.laws.proofs.BarLaws.{bar_length_lem}
use Rattle.laws.proofs.Lists.{flatten_append}
use Rattle.laws.proofs.Order.{by_lt}
use Rattle.bar_voice.specs.Voices.{voice_of, Skipped}
use Rattle.staff.specs.Bars.{voices_of, VoicesHeld, bar_voice, bar_voices, bar_lefts}
use Rattle.bar_voice.proofs.Few.{voice_few}

-- ---- one bar more

-- the bar's voices as section 7 has them
pub bar_voices_lem : (p n : ℕ) (w lens : List ℕ) (b : Bar) → voices_in p (voices_of n w lens) b ≡ bar_voices p n w lens b.start (bar_end b)
unfolding voice_in count
bar_voices_lem p n w lens b = refl

-- and their leftovers
pub bar_lefts_lem : (p n : ℕ) (w lens : List ℕ) (b : Bar) → voices_left p (voices_of n w lens) b ≡ bar_lefts p n w lens b.start (bar_end b)
unfolding voice_left count
bar_lefts_lem p n w lens b = refl

module _ (p : ℕ) (vs : List (List Chord)) where
  voices_more : (bs : List Bar) (b : Bar) → flatten (staff_of p vs (bs ++ (b ∷ []))) ≡ flatten (staff_of p vs bs) ++ voices_in p vs b
  unfolding flatten
  voices_more bs b = rw (map-append, flatten_append, append-nil)

  pub counts_more : (bs : List Bar) (b : Bar)
      → (arrays_of (staff_of p vs (bs ++ (b ∷ [])))).counts ≡ (arrays_of (staff_of p vs bs)).counts ++ map length (voices_in p vs b)
  counts_more bs b = rw (voices_more bs b, map-append)

  pub items_more : (bs : List Bar) (b : Bar) → items_of (staff_of p vs (bs ++ (b ∷ []))) ≡ items_of (staff_of p vs bs) ++ flatten (voices_in p vs b)
  items_more bs b = rw (voices_more bs b, flatten_append)

  pub leftovers_more : (bs : List Bar) (b : Bar) → leftovers_of p vs (bs ++ (b ∷ [])) ≡ leftovers_of p vs bs ++ voices_left p vs b
  unfolding flatten
  leftovers_more bs b = rw (map-append, flatten_append, append-nil)

  -- the first bars have no more voices and items than all
  pub voices_part : (bs cs : List Bar) → length (flatten (staff_of p vs bs)) ≤ length (flatten (staff_of p vs (bs ++ cs)))
  voices_part bs cs = rw (map-append, flatten_append, length-append) (omega arith)

  pub items_part : (bs cs : List Bar) → length (items_of (staff_of p vs bs)) ≤ length (items_of (staff_of p vs (bs ++ cs)))
  items_part bs cs = rw (map-append, flatten_append, flatten_append, length-append) (omega arith)

-- ---- how many

-- four counts a bar
pub counts_length : (p : ℕ) (vs : List (List Chord)) → length vs ≡ 4 → (bs : List Bar) → length (arrays_of (staff_of p vs bs)).counts ≡ 4 * length bs
unfolding flatten
counts_length p vs four [] = refl
counts_length p vs four (b ∷ bs) =
    let count = length {A = Item} in
    rw (map-append, length-append, length-map (voices_in p vs b) count) (omega (arith, bar_length_lem p vs b, counts_length p vs four bs))

-- some chord is the first that is not over
skipped_some : (t a : ℕ) (cs : List Chord) → Line 1 a cs → (i : ℕ) × Skipped t cs i
skipped_some t a [] l = (0, record { past = record { within = omega arith; over = tt }; here = λ h. absurd (omega arith) })
skipped_some t a (c ∷ cs) l =
    elim (by_lt t c.end) [
      | inl on ↦ (0, record { past = record { within = omega arith; over = tt }; here = λ h. on })
      | inr off ↦
          let (i, s) = skipped_some t c.end cs l.2 in
          (suc i, record { past = record { within = omega (arith, s.past.within); over = (off, s.past.over) }; here = λ h. s.here (omega arith) })
    ]

-- a bar has no more than four items a tick
pub bar_few : (p n : ℕ) (w lens : List ℕ) {b e : ℕ} → b < e → VoicesHeld n w lens
    → length (flatten (bar_voices p n w lens b e)) ≤ 4 * (e - b)
unfolding flatten count
bar_few p n w lens {b} {e} bar held =
    omega (arith, few 0 (omega arith), few 1 (omega arith), few 2 (omega arith), few 3 (omega arith), lengths)
  where
    few : (v : ℕ) → v < 4 → length (bar_voice p n w lens b e v) ≤ e - b
    few v h = let (i, s) = skipped_some b 0 (voice_of n w v (get_or lens v 0)) (held v h).line in voice_few p (eqb v 0) bar (held v h).line s

    lengths : length (flatten (bar_voices p n w lens b e))
        ≡ length (bar_voice p n w lens b e 0) + length (bar_voice p n w lens b e 1) + length (bar_voice p n w lens b e 2) + length (bar_voice p n w lens b e 3)
    lengths = rw (length-append, length-append, length-append, append-nil) (omega arith)
