-- The largest of a list, which does not depend on its order, and the larger of several numbers.
use Prim.Native.Nat.{ℕ, max}
use mathlib.Core.List.Permᴰ
use mathlib.Core.List.{List, [], ◌∷◌, ◌++◌, map, map-append}
use mathlib.Core.Path.{◌≡◌}
use native.Mathlib.Omega.{arith}
use Rattle.rules.specs.Lists.{sort_by, largest}
use Rattle.laws.proofs.Orders.{sort_order, order_largest}

pub largest_append : (xs ys : List ℕ) → largest (xs ++ ys) ≡ max (largest xs) (largest ys)
largest_append [] ys = omega arith
largest_append (x ∷ xs) ys = omega (arith, largest_append xs ys)

module _ {A : Type 0} (g : A → ℕ) where
  pub largest_map_append : (xs ys : List A) → largest (map g (xs ++ ys)) ≡ max (largest (map g xs)) (largest (map g ys))
  largest_map_append xs ys = rw (map-append g xs ys) (largest_append (map g xs) (map g ys))

  pub largest_sort : (f : A → ℕ) (xs : List A) → largest (map g (sort_by f xs)) ≡ largest (map g xs)
  largest_sort f xs = order_largest (Permᴰ.map g (sort_order f xs))

-- ---- the larger of several

pub max_moved : (c s w t : ℕ) → max (max c (max s w)) t ≡ max (max c (max t s)) w
max_moved c s w t = omega arith

pub max_both : (l s d : ℕ) → max (max l s) (max l d) ≡ max l (max s d)
max_both l s d = omega arith

pub max_last : (c t d : ℕ) → max (max c d) t ≡ max c (max t d)
max_last c t d = omega arith

pub max_assoc : (a b c : ℕ) → max a (max b c) ≡ max (max a b) c
max_assoc a b c = omega arith
