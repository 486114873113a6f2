-- Lengths of values, keys in two words, and the items of a staff's arrays one by one.
use Prim.Native.Nat.{ℕ, zero, suc, ◌+◌, ◌-◌, ◌*◌, ◌/◌, ◌%◌, ◌^◌, ◌≤◌, ◌<◌}
use mathlib.Core.Bool.{true, false, not, ◌&&◌}
use mathlib.Core.List.{List, [], ◌∷◌}
use mathlib.Core.Logic.{inl, inr}
use mathlib.Core.Path.{◌≡◌, refl, sym}
use native.Mathlib.Nat.{mul-le-mul, div-le_self}
use native.Mathlib.Omega.{arith}
use borrow.Author.Tests.{eq-eqb, ne_eqb, le-leb, lt-leb, lt-ltb, le-ltb}
use lib.Dec.{eqb, leb, ltb}
use lib.ListN.{length, get_or, take, drop}
use lib.Pow.{pow_pos}
use Rattle.rules.specs.Values.{ticks_of, is_whole}
use Rattle.rules.specs.Items.{Item, item_of, read_items}
use Rattle.laws.proofs.Order.{by_eq}
use Rattle.proofread_notes.proofs.KeyWords.{shifted}

-- ---- values

-- a value has two parts more with a dot
parts_is : (p d : ℕ) → d ≤ 1 → 16 * p * (2 * d + 1) ≡ 16 * p * (2 ^ (d + 1) - 1)
parts_is p zero h = refl
parts_is p (suc zero) h = refl
parts_is p (suc (suc d)) h = absurd (omega arith)

pub parts_small : (p d : ℕ) → p ≤ 65535 → d ≤ 1 → 16 * p * (2 * d + 1) ≤ 3145680
parts_small p d h l = mul-le-mul {n₂ = 1048560} {m₂ = 3} (omega arith) (omega arith)

pub power_some : (k : ℕ) → k < 64 → 0 < 1 * 2 ^ k % 2 ^ 64
power_some k h = rw (shifted k h) (pow_pos k)

pub value_is : (p c d : ℕ) → c ≤ 8 → d ≤ 1 → eqb (16 * p * (2 * d + 1) % (1 * 2 ^ (c + d) % 2 ^ 64)) 0 ≡ (leb c 8 && leb d 1 && is_whole p c d)
value_is p c d h l = rw (le-leb c 8 h, le-leb d 1 l, shifted (c + d) (omega arith), parts_is p d l)

pub value_not : (p c d : ℕ) → 8 < c → false ≡ (leb c 8 && leb d 1 && is_whole p c d)
value_not p c d h = rw (lt-leb c 8 h)

pub ticks_is : (p c d : ℕ) → p ≤ 65535 → c ≤ 8 → d ≤ 1
    → (16 * p * (2 * d + 1) / (1 * 2 ^ (c + d) % 2 ^ 64) ≡ ticks_of p c d) × (16 * p * (2 * d + 1) / (1 * 2 ^ (c + d) % 2 ^ 64) ≤ 3145680)
ticks_is p c d small h l = (
  rw (shifted (c + d) (omega arith), parts_is p d l),
  omega (arith, parts_small p d small l, div-le_self (16 * p * (2 * d + 1)) (1 * 2 ^ (c + d) % 2 ^ 64)),
)

-- ---- keys in two words

module _ (l h : ℕ) where
  pub low_some : (l ≡ 0 → ⊥) → (eqb (l + h * 2 ^ 64) 0 ≡ false) × (ltb 0 (l + h * 2 ^ 64) ≡ true)
  low_some n = (ne_eqb (l + h * 2 ^ 64) 0 (λ e. n (omega arith)), lt-ltb 0 (l + h * 2 ^ 64) (omega arith))

  pub high_some : (h ≡ 0 → ⊥) → (eqb (l + h * 2 ^ 64) 0 ≡ false) × (ltb 0 (l + h * 2 ^ 64) ≡ true)
  high_some n = (ne_eqb (l + h * 2 ^ 64) 0 (λ e. n (omega arith)), lt-ltb 0 (l + h * 2 ^ 64) (omega arith))

  pub none_is : l ≡ 0 → h ≡ 0 → eqb (l + h * 2 ^ 64) 0 ≡ true
  none_is e f = eq-eqb (l + h * 2 ^ 64) 0 (omega arith)

  pub high_only : l ≡ 0 → not (eqb h 0) ≡ ltb 0 (l + h * 2 ^ 64)
  high_only e =
      elim (by_eq h 0) [
        | inl f ↦ rw (eq-eqb h 0 f) (sym (le-ltb 0 (l + h * 2 ^ 64) (omega arith)))
        | inr f ↦ rw (ne_eqb h 0 f) (sym (high_some f).1)
      ]

pub words_differ : (l h l' h' : ℕ) → l < 2 ^ 64 → l' < 2 ^ 64 → (l ≡ l' → ⊥) → eqb (l + h * 2 ^ 64) (l' + h' * 2 ^ 64) ≡ false
words_differ l h l' h' s s' n = ne_eqb (l + h * 2 ^ 64) (l' + h' * 2 ^ 64) (λ e. n (omega arith))

pub words_differ_2 : (l h l' h' : ℕ) → l ≡ l' → (h ≡ h' → ⊥) → eqb (l + h * 2 ^ 64) (l' + h' * 2 ^ 64) ≡ false
words_differ_2 l h l' h' s n = ne_eqb (l + h * 2 ^ 64) (l' + h' * 2 ^ 64) (λ e. n (omega arith))

pub words_same : (l h l' h' : ℕ) → l ≡ l' → h ≡ h' → eqb (l + h * 2 ^ 64) (l' + h' * 2 ^ 64) ≡ true
words_same l h l' h' e f = eq-eqb (l + h * 2 ^ 64) (l' + h' * 2 ^ 64) (omega arith)

-- ---- items of the arrays

-- item k
abbrev pub item_at : List ℕ → List ℕ → ℕ → Item
item_at hs ks k = item_of (get_or hs k 0) (get_or ks (2 * k) 0) (get_or ks (2 * k + 1) 0)

read_cons : (hs ks : List ℕ) (k : ℕ) → k < length hs → 2 * length hs ≤ length ks → drop k (read_items hs ks) ≡ item_at hs ks k ∷ drop (suc k) (read_items hs ks)
unfolding read_items
read_cons [] ks k h l = absurd (omega arith)
read_cons (a ∷ hs) [] k h l = absurd (omega arith)
read_cons (a ∷ hs) (b ∷ []) k h l = absurd (omega arith)
read_cons (a ∷ hs) (b ∷ c ∷ ks) zero h l = refl
read_cons (a ∷ hs) (b ∷ c ∷ ks) (suc k) h l =
    let e : 2 * suc k ≡ suc (suc (2 * k)) = omega arith in
    let f : suc (suc (2 * k)) + 1 ≡ suc (suc (2 * k + 1)) = omega arith in
    rw (e, f) (read_cons hs ks k (omega arith) (omega arith))

-- the items from item i of n on
pub items_cons : (hs ks : List ℕ) (first n i : ℕ) → i < n → first + n ≤ length hs → 2 * length hs ≤ length ks
    → take (n - i) (drop (first + i) (read_items hs ks)) ≡ item_at hs ks (first + i) ∷ take (n - (i + 1)) (drop (first + (i + 1)) (read_items hs ks))
items_cons hs ks first n i h l o =
    let e : n - i ≡ suc (n - (i + 1)) = omega arith in
    let f : suc (first + i) ≡ first + (i + 1) = omega arith in
    rw (e, read_cons hs ks (first + i) (omega arith) o, f)

pub items_none : (xs : List Item) (n i : ℕ) → n ≤ i → take (n - i) xs ≡ []
items_none xs n i h = let e : n - i ≡ 0 = omega arith in rw e
