-- Section 3's values: a tempo is 1 to 999, a lower figure is not 0, and fifths, clamped, are -7 to 7.
use Prim.Native.Nat.{ℕ, suc, ◌-◌, ◌≤◌, ◌<◌}
use mathlib.Core.Bool.{cond}
use mathlib.Core.List.{List, [], ◌∷◌}
use mathlib.Core.Logic.{inl, inr}
use mathlib.Core.Path.{◌≡◌}
use native.Mathlib.Nat.{sub-zero}
use native.Mathlib.Omega.{arith}
use borrow.Author.Rules.{sfits_of}
use borrow.Author.Tests.{lt-ltb, le-ltb}
use lib.Dec.{T, ltb, eqb}
use lib.IntN.{ℤ, pos, negsuc, sub_ℕ, nat_abs, ◌+ℤ◌}
use lib.Pow.{pow_pos}
use lib.Signed.{non_neg, pos-nat_abs}
use mir.Facts.{sfits_lit}
use mir.Syntax.{w32}
use mir.Val.{SFits}
use Rattle.rules.specs.Lists.{keep, first_or, All}
use Rattle.rules.specs.Piece.{Event, is_kind, byte_b, lower_figure}
use Rattle.rules.specs.Changes.{Meter, tempo_of, clamp_fifths, common_time, meter_changes, at_zero, first_meter}
use Rattle.laws.proofs.Order.{by_bool, by_lt}

-- ---- tempo

pub tempo_range : (v : ℕ) → (1 ≤ tempo_of v) × (tempo_of v ≤ 999)
tempo_range v = (omega arith, omega arith)

-- ---- meter

first_has : {A : Type 0} (P : A → Type 0) (d : A) (xs : List A) → P d → All P xs → P (first_or d xs)
first_has P d [] h k = h
first_has P d (x ∷ xs) h k = k.0

pub lower_positive : (w : ℕ) → 0 < lower_figure w
lower_positive w = pow_pos (byte_b w)

lowers : (es : List Event) → All (λ (m : Meter). 0 < m.lower) (at_zero (meter_changes es))
unfolding keep
lowers [] = tt
lowers (e ∷ es) =
    elim (by_bool (is_kind 3 e.word)) [
      | inl k ↦ rw k (elim (by_bool (eqb e.tick 0)) [ inl z ↦ rw z (lower_positive e.word, lowers es) | inr z ↦ rw z (lowers es) ])
      | inr k ↦ rw k (lowers es)
    ]

-- the head's lower figure is not 0
pub head_lower : (es : List Event) → 0 < (first_meter es).lower
head_lower es = first_has (λ (m : Meter). 0 < m.lower) common_time (at_zero (meter_changes es)) (omega arith) (lowers es)

-- ---- fifths

-- a byte as a signed one, clamped
module _ (a : ℕ) where
  abbrev clamped : ℤ
  clamped = clamp_fifths (cond (ltb a 128) (sub_ℕ a 0) (sub_ℕ a 256))

  pub fifths_up : a < 8 → pos a ≡ clamped
  fifths_up h = rw (lt-ltb a 128 (omega arith), le-ltb a 0 (omega arith), sub-zero, le-ltb 7 a (omega arith))

  pub fifths_seven : 8 ≤ a → a < 128 → pos 7 ≡ clamped
  fifths_seven h k = rw (lt-ltb a 128 k, le-ltb a 0 (omega arith), sub-zero, lt-ltb 7 a (omega arith))

  pub fifths_minus_seven : 128 ≤ a → a < 249 → negsuc 6 ≡ clamped
  fifths_minus_seven h k = rw (le-ltb a 128 h, lt-ltb a 256 (omega arith), lt-ltb 6 (256 - suc a) (omega arith))

  pub fifths_down : 249 ≤ a → a < 256 → sub_ℕ a 256 ≡ clamped
  fifths_down h k = rw (le-ltb a 128 (omega arith), lt-ltb a 256 k, le-ltb 6 (256 - suc a) (omega arith))

-- a clamped number of fifths and 8 is 1 to 15
pub record Shifted (n : ℤ) : Type 0 where
  pub sign : T (non_neg n)
  pub low : 1 ≤ nat_abs n
  pub high : nat_abs n ≤ 15

pub fifths_shifted : (z : ℤ) → Shifted (clamp_fifths z +ℤ pos 8)
fifths_shifted (pos n) =
    elim (by_lt 7 n) [
      | inl h ↦ rw (lt-ltb 7 n h) (record { sign = tt; low = omega arith; high = omega arith })
      | inr h ↦ rw (le-ltb 7 n h) (record { sign = tt; low = omega arith; high = omega arith })
    ]
fifths_shifted (negsuc n) =
    elim (by_lt 6 n) [
      | inl h ↦ rw (lt-ltb 6 n h) (record { sign = tt; low = omega arith; high = omega arith })
      | inr h ↦ rw (le-ltb 6 n h, le-ltb 8 (suc n) (omega arith)) (record { sign = tt; low = omega arith; high = omega arith })
    ]

-- both fit a signed integer of 32 bits
pub fifths_fit : (z : ℤ) → SFits w32 (clamp_fifths z)
fifths_fit (pos n) = elim (by_lt 7 n) [ inl h ↦ rw (lt-ltb 7 n h) (sfits_lit tt) | inr h ↦ rw (le-ltb 7 n h) (sfits_of (omega arith)) ]
fifths_fit (negsuc n) = elim (by_lt 6 n) [ inl h ↦ rw (lt-ltb 6 n h) (sfits_lit tt) | inr h ↦ rw (le-ltb 6 n h) (sfits_of (omega arith)) ]

pub shifted_fit : (z : ℤ) → SFits w32 (clamp_fifths z +ℤ pos 8)
shifted_fit z = let s = fifths_shifted z in rw (← pos-nat_abs (clamp_fifths z +ℤ pos 8) s.sign) (sfits_of (omega arith))
