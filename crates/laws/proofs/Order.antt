-- Cases on a test and on an order, multiples of a number, and the order of a number that is composed of two.
use Prim.Native.Nat.{ℕ, zero, suc, ◌+◌, ◌*◌, ◌≤◌, ◌<◌, ◌∣◌, min, max}
use mathlib.Core.Bool.{◌&&◌, ◌||◌}
use mathlib.Core.Logic.{◌⊎◌, inl, inr, ⊎_elim}
use mathlib.Core.Path.{◌≡◌}
use native.Mathlib.Nat.{min-eq_left, min-eq_right, max-eq_left, max-eq_right}
use native.Mathlib.Omega.{arith}
use borrow.Author.Tests.{leb-true, leb-false, ltb-true, ltb-false, eqb-true, eqb-false, le-leb, lt-leb, lt-ltb, le-ltb, eq-eqb, ne_eqb}
use lib.Dec.{leb, ltb, eqb}
pub use Rattle.rules.proofs.Cases.{by_bool, by_or}

module _ (m n : ℕ) where
  pub by_le : (m ≤ n) ⊎ (n < m)
  by_le = ⊎_elim (λ h. inl (leb-true m n h)) (λ h. inr (leb-false m n h)) (by_bool (leb m n))

  pub by_lt : (m < n) ⊎ (n ≤ m)
  by_lt = ⊎_elim (λ h. inl (ltb-true m n h)) (λ h. inr (ltb-false m n h)) (by_bool (ltb m n))

  pub by_eq : (m ≡ n) ⊎ (m ≡ n → ⊥)
  by_eq = ⊎_elim (λ h. inl (eqb-true m n h)) (λ h. inr (eqb-false m n h)) (by_bool (eqb m n))

module _ (u a b : ℕ) (h : u ∣ a) (k : u ∣ b) where
  pub dvd_min : u ∣ min a b
  dvd_min = elim (by_lt a b) [ inl o ↦ rw (min-eq_left {n = a} {m = b} (omega arith)) h | inr o ↦ rw (min-eq_right o) k ]

  pub dvd_max : u ∣ max a b
  dvd_max = elim (by_lt a b) [ inl o ↦ rw (max-eq_right {n = a} {m = b} (omega arith)) k | inr o ↦ rw (max-eq_left o) h ]

-- with k and k' below 128, s * 128 + k orders as the pair of s and k does
pub leb_pair : (s k s' k' : ℕ) → k < 128 → k' < 128 → leb (s * 128 + k) (s' * 128 + k') ≡ (ltb s s' || (eqb s s' && leb k k'))
leb_pair s k s' k' h h' =
    elim (by_lt s s') [
      | inl lt ↦ rw (lt-ltb s s' lt, le-leb (s * 128 + k) (s' * 128 + k') (omega arith))
      | inr le ↦
          elim (by_eq s s') [
            | inl e ↦
                elim (by_le k k') [
                  | inl l ↦ rw (le-ltb s s' le, eq-eqb s s' e, le-leb k k' l, le-leb (s * 128 + k) (s' * 128 + k') (omega arith))
                  | inr l ↦ rw (le-ltb s s' le, eq-eqb s s' e, lt-leb k k' l, lt-leb (s * 128 + k) (s' * 128 + k') (omega arith))
                ]
            | inr ne ↦ rw (le-ltb s s' le, ne_eqb s s' ne, lt-leb (s * 128 + k) (s' * 128 + k') (omega arith))
          ]
    ]

-- a number that is none of those below n, as the last arm of a match knows it
abbrev pub Past : ℕ → ℕ → Type 0
Past zero k = Unit {0}
Past (suc n) k = Past n k × (k ≡ n → ⊥)

pub past : (n k : ℕ) → Past n k → n ≤ k
past zero k p = omega arith
past (suc n) k p = let h : n ≤ k = past n k p.0 in omega (arith, p.1)
