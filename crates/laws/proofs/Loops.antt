-- What a loop over a list cites: what is left from element i on, and what has been passed.
use Prim.Native.Nat.{ℕ, zero, suc, ◌+◌, ◌*◌, ◌-◌, ◌≤◌, ◌<◌}
use mathlib.Core.Bool.{Bool}
use mathlib.Core.List.{List, [], ◌∷◌}
use mathlib.Core.Logic.{inl, inr}
use mathlib.Core.Path.{◌≡◌, refl, sym}
use native.Mathlib.Nat.{suc-mul}
use native.Mathlib.Numerals.{add-one}
use native.Mathlib.Omega.{arith}
use borrow.Author.Tests.{lt-ltb}
use lib.Dec.{ltb}
use lib.ListN.{length, get_or, take, drop, length-drop, drop_of_length-le}
use lib.Seq.{drop-cons, take_all}
use Rattle.rules.specs.Lists.{All, keep, any, sum, flag}
use Rattle.laws.proofs.Order.{by_bool}

-- ---- what `&s[n..]` lends
pub take_rest : {A : Type 0} (n : ℕ) (xs : List A) → take (length xs - n) (drop n xs) ≡ drop n xs
take_rest n xs = take_all (length xs - n) (drop n xs) (omega (arith, length-drop n xs))

-- ---- those that pass a test
pub any_count : {A : Type 0} (f : A → Bool) (xs : List A) → any f xs ≡ ltb 0 (length (keep f xs))
unfolding any keep
any_count f [] = refl
any_count f (x ∷ xs) = elim (by_bool (f x)) [ inl e ↦ rw e (sym (lt-ltb 0 (suc (length (keep f xs))) (omega arith))) | inr e ↦ rw e (any_count f xs) ]

-- those that pass from element i on
pub keep_left : {A : Type 0} (f : A → Bool) (xs : List A) (i : ℕ) (d : A) → i < length xs
    → length (keep f (drop i xs)) ≡ flag (f (get_or xs i d)) + length (keep f (drop (i + 1) xs))
unfolding keep
keep_left f xs i d h = rw (drop-cons xs i d h, add-one) (elim (by_bool (f (get_or xs i d))) [ inl e ↦ rw e (omega arith) | inr e ↦ rw e (omega arith) ])

pub keep_done : {A : Type 0} (f : A → Bool) (xs : List A) (i : ℕ) → length xs ≤ i → keep f (drop i xs) ≡ []
unfolding keep
keep_done f xs i h = rw (drop_of_length-le xs h)

-- ---- sums
pub sum_all : (k : ℕ) (ns : List ℕ) → All (λ n. n ≤ k) ns → sum ns ≤ length ns * k
unfolding sum
sum_all k [] h = omega arith
sum_all k (n ∷ ns) h = let more = sum_all k ns h.1 in rw suc-mul (omega arith)

-- the sum of one element more
pub sum_take : (ns : List ℕ) (i : ℕ) → i < length ns → sum (take (i + 1) ns) ≡ sum (take i ns) + get_or ns i 0
unfolding sum
sum_take ns i h = rw add-one (go ns i h)
  where
    go : (ns : List ℕ) (i : ℕ) → i < length ns → sum (take (suc i) ns) ≡ sum (take i ns) + get_or ns i 0
    go [] i h = absurd (omega arith)
    go (n ∷ ns) zero h = omega arith
    go (n ∷ ns) (suc i) h = let more = go ns i (omega arith) in omega arith

-- the sum from element i on
pub sum_left : (ns : List ℕ) (i : ℕ) → i < length ns → sum (drop i ns) ≡ get_or ns i 0 + sum (drop (i + 1) ns)
unfolding sum
sum_left ns i h = rw (drop-cons ns i 0 h) (rw add-one)

pub sum_none : (ns : List ℕ) (i : ℕ) → length ns ≤ i → sum (drop i ns) ≡ 0
unfolding sum
sum_none ns i h = rw (drop_of_length-le ns h)
