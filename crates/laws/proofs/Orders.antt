-- Laws of lists that are the same up to order: a sort is, and what does not depend on the order is equal.
use Prim.Native.Nat.{ℕ}
use mathlib.Core.Bool.{Bool}
use mathlib.Core.List.Permᴰ
use mathlib.Core.List.{List, [], ◌∷◌, ◌++◌}
use mathlib.Core.Logic.{inl, inr}
use mathlib.Core.Path.{◌≡◌, refl, ◌∙◌, subst}
use native.Mathlib.Omega.{arith}
use lib.Dec.{leb}
use lib.ListN.{length}
use Rattle.rules.specs.Lists.{insert, sort_by, largest, All}
use Rattle.laws.specs.Orders.{SameUpToOrder}
use Rattle.laws.proofs.Order.{by_bool}
use Rattle.laws.proofs.Tests.{tally}

module _ {A : Type 0} where
  -- the last element comes first
  pub last_first : (x : A) (xs : List A) → SameUpToOrder (xs ++ (x ∷ [])) (x ∷ xs)
  last_first x xs = Permᴰ.trans (Permᴰ.middle x xs []) (Permᴰ.cons refl (Permᴰ.append-nil xs))

  -- ---- sorting

  module _ (f : A → ℕ) where
    insert_order : (x : A) (ys : List A) → SameUpToOrder (insert f x ys) (x ∷ ys)
    unfolding insert
    insert_order x [] = Permᴰ.refl (x ∷ [])
    insert_order x (y ∷ ys) =
        elim (by_bool (leb (f x) (f y))) [
          | inl t ↦ rw t (Permᴰ.refl (x ∷ y ∷ ys))
          | inr t ↦ rw t (Permᴰ.trans (Permᴰ.cons refl (insert_order x ys)) (Permᴰ.swap refl refl))
        ]

    pub sort_order : (xs : List A) → SameUpToOrder (sort_by f xs) xs
    unfolding sort_by
    sort_order [] = Permᴰ.nil
    sort_order (x ∷ xs) = Permᴰ.trans (insert_order x (sort_by f xs)) (Permᴰ.cons refl (sort_order xs))

  -- ---- what does not depend on the order

  pub order_length : {xs ys : List A} → SameUpToOrder xs ys → length xs ≡ length ys
  order_length Permᴰ.nil = refl
  order_length (Permᴰ.cons e d) = omega (arith, order_length d)
  order_length (Permᴰ.swap e₁ e₂) = refl
  order_length (Permᴰ.trans d₁ d₂) = order_length d₁ ∙ order_length d₂

  -- how many pass a test
  pub order_tally : (g : A → Bool) {xs ys : List A} → SameUpToOrder xs ys → tally g xs ≡ tally g ys
  unfolding tally
  order_tally g Permᴰ.nil = refl
  order_tally g (Permᴰ.cons e d) = rw e (omega (arith, order_tally g d))
  order_tally g (Permᴰ.swap e₁ e₂) = rw (e₁, e₂) (omega arith)
  order_tally g (Permᴰ.trans d₁ d₂) = order_tally g d₁ ∙ order_tally g d₂

  -- what all elements have
  pub All-order : (P : A → Type 0) {xs ys : List A} → SameUpToOrder xs ys → All P xs → All P ys
  All-order P Permᴰ.nil h = h
  All-order P (Permᴰ.cons e d) h = (subst P e h.0, All-order P d h.1)
  All-order P (Permᴰ.swap e₁ e₂) h = (subst P e₂ h.1.0, (subst P e₁ h.0, h.1.1))
  All-order P (Permᴰ.trans d₁ d₂) h = All-order P d₂ (All-order P d₁ h)

pub order_largest : {xs ys : List ℕ} → SameUpToOrder xs ys → largest xs ≡ largest ys
order_largest Permᴰ.nil = refl
order_largest (Permᴰ.cons e d) = rw e (omega (arith, order_largest d))
order_largest (Permᴰ.swap e₁ e₂) = rw (e₁, e₂) (omega arith)
order_largest (Permᴰ.trans d₁ d₂) = order_largest d₁ ∙ order_largest d₂
