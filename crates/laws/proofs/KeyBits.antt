-- Keys as bits of one number: which keys are in a joined number, and in a power of two.
use Prim.Native.Nat.{ℕ, suc, ◌+◌, ◌-◌, ◌/◌, ◌^◌, ◌<◌, max}
use mathlib.Core.Logic.{◌⊎◌, inl, inr}
use mathlib.Core.Path.{◌≡◌}
use native.Mathlib.Nat.{div-eq_of_lt, div_self}
use native.Mathlib.Omega.{arith}
use lib.Bits.{bit_or, or_shr, or_step, or_add_and, and_le_r}
use lib.Pow.{pow_pos, pow-lt, pow-add, shl-shr}
use Rattle.rules.specs.Lists.{bit}
use Rattle.rules.specs.ProofReader.{HasKey}
use Rattle.laws.proofs.Order.{by_le}

-- a bit of an or is the larger of the two bits
pub bit_or_lem : (k m n : ℕ) → bit k (bit_or m n) ≡ max (bit k m) (bit k n)
bit_or_lem k m n = rw (or_shr m n k, or_step) (omega arith)

pub key_left : (k m n : ℕ) → HasKey k m → HasKey k (bit_or m n)
key_left k m n h = omega (arith, bit_or_lem k m n)

pub key_right : (k m n : ℕ) → HasKey k n → HasKey k (bit_or m n)
key_right k m n h = omega (arith, bit_or_lem k m n)

pub key_cases : (k m n : ℕ) → HasKey k (bit_or m n) → HasKey k m ⊎ HasKey k n
key_cases k m n h =
    elim (by_le 1 (bit k m)) [ inl l ↦ inl (omega arith) | inr l ↦ inr (omega (arith, bit_or_lem k m n)) ]

pub key_own : (k : ℕ) → HasKey k (2 ^ k)
key_own k = rw (div_self (pow_pos k))

pub key_only : (j k : ℕ) → HasKey k (2 ^ j) → j ≡ k
key_only j k h =
    elim (by_le k j) [
      | inl l ↦ elim (by_le j k) [ inl o ↦ omega arith | inr o ↦ absurd (even (j - suc k) (omega arith)) ]
      | inr l ↦ absurd (far l)
    ]
  where
    far : j < k → ⊥
    far l = let z : 2 ^ j / 2 ^ k ≡ 0 = div-eq_of_lt (pow-lt l) in omega arith

    even : (i : ℕ) → suc i + k ≡ j → ⊥
    even i e =
        let z : 2 ^ j / 2 ^ k ≡ 2 ^ suc i = rw (← e, pow-add) (shl-shr (2 ^ suc i) k) in
        omega arith

pub keyed_or : (m n : ℕ) → 0 < m → 0 < bit_or m n
keyed_or m n h = omega (arith, or_add_and m n, and_le_r m n)
