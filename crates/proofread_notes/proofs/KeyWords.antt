-- Keys as bits of two words: a word by its bits, a word with one key more, a word that has all keys of another.
use Prim.Native.Nat.{ℕ, zero, suc, ◌+◌, ◌-◌, ◌*◌, ◌/◌, ◌%◌, ◌^◌, ◌≤◌, ◌<◌, max}
use mathlib.Core.Bool.{Bool}
use mathlib.Core.Logic.{inl, inr}
use mathlib.Core.Path.{◌≡◌, sym, ap, ◌∙◌}
use native.Mathlib.Nat.{one-mul, mod-eq_of_lt, div-one, zero-div, add_comm}
use native.Mathlib.Omega.{arith}
use borrow.Author.Tests.{eq-eqb, ne_eqb, eqb-true}
use lib.Bits.{bit_or, or_lt}
use lib.Dec.{eqb}
use lib.Pow.{pow-lt, high, low, shr-shr, field, mod-mod-pow}
use Rattle.rules.specs.Lists.{bit, flag}
use Rattle.rules.specs.ProofReader.{HasKey}
use Rattle.rules.specs.ProofReaderTests.{has_key?}
use Rattle.laws.specs.Says.{Says}
use Rattle.laws.proofs.KeyBits.{bit_or_lem, key_own, key_only}
use Rattle.laws.proofs.Order.{by_eq}

-- bit k of key j alone
bit_own : (j k : ℕ) → bit k (2 ^ j) ≡ flag (eqb j k)
bit_own j k =
    elim (by_eq j k) [
      | inl e ↦ rw (eq-eqb j k e) (ap (λ (x : ℕ). bit k (2 ^ x)) e ∙ key_own k)
      | inr e ↦
          rw (ne_eqb j k e)
          (elim (by_eq (bit k (2 ^ j)) 1) [ inl h ↦ absurd (e (key_only j k h)) | inr h ↦ omega arith ])
    ]

-- a bit shifted left within a word
pub shifted : (k : ℕ) → k < 64 → 1 * 2 ^ k % 2 ^ 64 ≡ 2 ^ k
shifted k h = rw one-mul (mod-eq_of_lt (pow-lt {j = 64} h))

-- a word with one key more
pub bit_more : (k j x : ℕ) → j < 64 → bit k (bit_or x (1 * 2 ^ j % 2 ^ 64)) ≡ max (bit k x) (flag (eqb j k))
bit_more k j x h = rw (shifted j h) (bit_or_lem k x (2 ^ j) ∙ ap (max (bit k x)) (bit_own j k))

-- ---- a number by its bits

bit_zero : (n : ℕ) → bit zero n ≡ n % 2
bit_zero n = ap (λ (x : ℕ). x % 2) (div-one n)

bit_suc : (k n : ℕ) → bit (suc k) n ≡ bit k (n / 2)
bit_suc k n =
    let e : suc k ≡ 1 + k = omega arith in
    ap (λ (x : ℕ). n / 2 ^ x % 2) e ∙ ap (λ (x : ℕ). x % 2) (sym (shr-shr n 1 k))

pub bits_same : (n a b : ℕ) → a < 2 ^ n → b < 2 ^ n → ((k : ℕ) → k < n → bit k a ≡ bit k b) → a ≡ b
bits_same zero a b ha hb h = omega arith
bits_same (suc n) a b ha hb h =
    let half : a / 2 ≡ b / 2 = bits_same n (a / 2) (b / 2) (omega arith) (omega arith) (λ k l. sym (bit_suc k a) ∙ h (suc k) (omega arith) ∙ bit_suc k b) in
    let odd : a % 2 ≡ b % 2 = sym (bit_zero a) ∙ h zero (omega arith) ∙ bit_zero b in
    omega arith

-- one word has all keys of another
pub says_covers : (a b : ℕ) → a < 2 ^ 64 → b < 2 ^ 64 → Says (eqb (bit_or a b) b) ((k : ℕ) → k < 64 → HasKey k a → HasKey k b)
says_covers a b ha hb = (
  λ t k l h. omega (arith, bit_or_lem k a b, ap (bit k) (eqb-true (bit_or a b) b t)),
  λ f.
      eq-eqb (bit_or a b) b
      (bits_same 64 (bit_or a b) b (or_lt 64 a b ha hb) hb
      (λ k l. bit_or_lem k a b ∙ elim (by_eq (bit k a) 1) [ inl h ↦ omega (arith, f k l h) | inr h ↦ omega arith ])),
)

pub says_none : (a : ℕ) → a < 2 ^ 64 → Says (eqb a 0) ((k : ℕ) → k < 64 → HasKey k a → ⊥)
says_none a ha = (
  λ t k l h. let z = eqb-true a 0 t in omega (arith, ap (bit k) z, none k),
  λ f. eq-eqb a 0 (bits_same 64 a 0 ha (omega arith) (λ k l. elim (by_eq (bit k a) 1) [ inl h ↦ absurd (f k l h) | inr h ↦ omega (arith, none k) ])),
)
  where
    none : (k : ℕ) → bit k 0 ≡ 0
    none k = rw (zero-div (2 ^ k))

-- ---- two words

-- a key of two words is one of the first, or 64 less is one of the second
pub low_bit : (k l h : ℕ) → k < 64 → l < 2 ^ 64 → bit k (l + h * 2 ^ 64) ≡ bit k l
low_bit k l h lt small =
    let e : 64 ≡ 63 - k + (1 + k) = omega arith in
    let n : ℕ = l + h * 2 ^ 64 in
    let whole : n % 2 ^ 64 ≡ l = ap (λ (x : ℕ). x % 2 ^ 64) (add_comm l (h * 2 ^ 64)) ∙ low h 64 small in
    let part : n % 2 ^ (1 + k) ≡ l % 2 ^ (1 + k) =
    sym (mod-mod-pow n (63 - k) (1 + k)) ∙ ap (λ (x : ℕ). x % 2 ^ (1 + k)) (ap (λ (x : ℕ). n % 2 ^ x) (sym e) ∙ whole) in
    sym (field n 1 k) ∙ ap (λ (x : ℕ). x / 2 ^ k) part ∙ field l 1 k

pub high_bit : (k l h : ℕ) → l < 2 ^ 64 → bit (64 + k) (l + h * 2 ^ 64) ≡ bit k h
high_bit k l h small =
    let n : ℕ = l + h * 2 ^ 64 in
    let top : n / 2 ^ 64 ≡ h = ap (λ (x : ℕ). x / 2 ^ 64) (add_comm l (h * 2 ^ 64)) ∙ high h 64 small in
    ap (λ (x : ℕ). x % 2) (sym (shr-shr n 64 k) ∙ ap (λ (x : ℕ). x / 2 ^ k) top)

-- ---- what `has_key` and `with_note` answer

pub has_low : (k l h : ℕ) → k < 64 → l < 2 ^ 64 → eqb (l / 2 ^ k % 2) 1 ≡ has_key? k (l + h * 2 ^ 64)
has_low k l h lt small = ap (λ (x : ℕ). eqb x 1) (sym (low_bit k l h lt small))

pub has_high : (k l h : ℕ) → 64 ≤ k → l < 2 ^ 64 → eqb (h / 2 ^ (k - 64) % 2) 1 ≡ has_key? k (l + h * 2 ^ 64)
has_high k l h le small =
    let e : 64 + (k - 64) ≡ k = omega arith in
    ap (λ (x : ℕ). eqb x 1) (sym (high_bit (k - 64) l h small)) ∙ ap (λ (j : ℕ). has_key? j (l + h * 2 ^ 64)) e

-- a key that is not one of this word
pub not_here : (b k key : ℕ) → (key ≡ k → ⊥) → b ≡ max b (flag (eqb key k))
not_here b k key h = rw (ne_eqb key k h) (omega arith)

-- a key of the high word
pub high_more : (k key x : ℕ) → 64 ≤ key → key < 128 → bit k (bit_or x (1 * 2 ^ (key - 64) % 2 ^ 64)) ≡ max (bit k x) (flag (eqb key (64 + k)))
high_more k key x l h =
    let same : eqb (key - 64) k ≡ eqb key (64 + k) =
    elim (by_eq key (64 + k)) [
      | inl e ↦ eq-eqb (key - 64) k (omega arith) ∙ sym (eq-eqb key (64 + k) e)
      | inr e ↦ ne_eqb (key - 64) k (λ q. e (omega arith)) ∙ sym (ne_eqb key (64 + k) e)
    ] in
    bit_more k (key - 64) x (omega arith) ∙ ap (λ (b : Bool). max (bit k x) (flag b)) same
