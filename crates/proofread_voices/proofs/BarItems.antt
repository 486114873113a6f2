-- The items of a voice in a bar, by the counts of the arrays.
use Prim.Native.Nat.{ℕ, zero, suc, ◌+◌, ◌*◌, ◌≤◌, ◌<◌}
use mathlib.Core.List.{List, [], ◌∷◌}
use mathlib.Core.Path.{◌≡◌, refl, sym, ap, ◌∙◌}
use native.Mathlib.Nat.{add-zero, add_assoc}
use native.Mathlib.Omega.{arith}
use borrow.Author.Tests.{ne_eqb}
use lib.Dec.{eqb}
use lib.ListN.{length, get_or, take, drop, length-take, length-drop}
use lib.Seq.{drop-drop, get_or-drop, take-add}
use Rattle.rules.specs.Lists.{sum, is_empty}
use Rattle.rules.specs.Items.{Item, read_items, cut_by, by_fours}
use Rattle.rules.specs.ProofReader.{voice_items}
use Rattle.laws.proofs.Lists.{sum_append}
use Rattle.laws.proofs.Loops.{sum_take}

-- ---- sums of counts

pub sum_more : (cs : List ℕ) (from i : ℕ) → from + i < length cs → sum (take (i + 1) (drop from cs)) ≡ sum (take i (drop from cs)) + get_or cs (from + i) 0
sum_more cs from i h = sum_take (drop from cs) i (simp length-drop (omega arith)) ∙ ap (λ (x : ℕ). sum (take i (drop from cs)) + x) (get_or-drop from cs i 0)

pub sum_next : (cs : List ℕ) (k n : ℕ) → sum (take (k + n) cs) ≡ sum (take k cs) + sum (take n (drop k cs))
sum_next cs k n = rw take-add (sum_append (take k cs) (take n (drop k cs)))

-- a part of the counts is not more than all
pub sum_part : (cs : List ℕ) (k : ℕ) → sum (take k cs) ≤ sum cs
unfolding sum
sum_part [] zero = omega arith
sum_part [] (suc k) = omega arith
sum_part (c ∷ cs) zero = omega arith
sum_part (c ∷ cs) (suc k) = omega (arith, sum_part cs k)

-- ---- a bar of four voices

module _ {A : Type 0} where
  abbrev pub four_of : List ℕ → List A → List (List A)
  four_of cs xs =
      take (get_or cs 0 0) xs
      ∷ take (get_or cs 1 0) (drop (sum (take 1 cs)) xs)
      ∷ take (get_or cs 2 0) (drop (sum (take 2 cs)) xs)
      ∷ take (get_or cs 3 0) (drop (sum (take 3 cs)) xs)
      ∷ []

  pub four_cut : (cs : List ℕ) (xs : List A) → 4 ≤ length cs → by_fours (cut_by cs xs) ≡ four_of cs xs ∷ by_fours (cut_by (drop 4 cs) (drop (sum (take 4 cs)) xs))
  unfolding by_fours cut_by sum
  four_cut [] xs h = absurd (omega arith)
  four_cut (a ∷ []) xs h = absurd (omega arith)
  four_cut (a ∷ b ∷ []) xs h = absurd (omega arith)
  four_cut (a ∷ b ∷ c ∷ []) xs h = absurd (omega arith)
  four_cut (a ∷ b ∷ c ∷ d ∷ cs) xs h = simp (drop-drop, add-zero, add_assoc)

-- voice v of the bar
pub four_voice : (cs : List ℕ) (xs : List Item) (v : ℕ) → v < 4 → voice_items v (four_of cs xs) ≡ take (get_or cs v 0) (drop (sum (take v cs)) xs)
unfolding sum
four_voice cs xs zero h = refl
four_voice cs xs (suc zero) h = refl
four_voice cs xs (suc (suc zero)) h = refl
four_voice cs xs (suc (suc (suc zero))) h = refl
four_voice cs xs (suc (suc (suc (suc v)))) h = absurd (omega arith)

-- ---- the items of the arrays

pub length_read : (hs ks : List ℕ) → 2 * length hs ≤ length ks → length (read_items hs ks) ≡ length hs
unfolding read_items
length_read [] ks h = refl
length_read (a ∷ hs) [] h = absurd (omega arith)
length_read (a ∷ hs) (b ∷ []) h = absurd (omega arith)
length_read (a ∷ hs) (b ∷ c ∷ ks) h = ap suc (length_read hs ks (omega arith))

empty_is : (xs : List Item) → is_empty xs ≡ eqb (length xs) 0
empty_is [] = refl
empty_is (x ∷ xs) = sym (ne_eqb (length (x ∷ xs)) 0 (λ e. omega arith))

pub none_there : (hs ks : List ℕ) (first count : ℕ) → first + count ≤ length hs → 2 * length hs ≤ length ks
    → is_empty (take count (drop first (read_items hs ks))) ≡ eqb count 0
none_there hs ks first count h l =
    let long : length (take count (drop first (read_items hs ks))) ≡ count = simp (length-take, length-drop) (omega (arith, length_read hs ks l)) in
    empty_is (take count (drop first (read_items hs ks))) ∙ ap (λ (x : ℕ). eqb x 0) long

pub sum_start : (cs : List ℕ) → 0 ≡ sum (take 0 cs)
unfolding sum
sum_start cs = refl
