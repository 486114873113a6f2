-- Lists that differ by exchanges of neighbours of some kind, and what a sort and a state that goes through them make of that.
use Prim.Native.Nat.{ℕ, ◌<◌}
use mathlib.Core.List.Permᴰ
use mathlib.Core.List.{List, [], ◌∷◌, ◌++◌, map, foldl}
use mathlib.Core.Logic.{inl, inr}
use mathlib.Core.Path.{◌≡◌, refl, ap, ◌∙◌}
use native.Mathlib.Omega.{arith}
use Rattle.rules.specs.Lists.{insert, sort_by, All}
use Rattle.laws.specs.Orders.{SameUpToOrder}
use Rattle.laws.proofs.Order.{by_le, by_lt}
use Rattle.laws.proofs.Orders.{All-order}
use Rattle.laws.proofs.Sort.{insert_first, insert_later, insert_least}

-- one list comes out of the other by exchanges of neighbours that R relates
pub data Swapped {A : Type 0} (R : A → A → Type 0) : List A → List A → Type 0 where
  same : {xs : List A} → Swapped R xs xs
  behind : {x : A} {xs ys : List A} → Swapped R xs ys → Swapped R (x ∷ xs) (x ∷ ys)
  swap : {x y : A} {xs : List A} → R x y → Swapped R (x ∷ y ∷ xs) (y ∷ x ∷ xs)
  next : {xs ys zs : List A} → Swapped R xs ys → Swapped R ys zs → Swapped R xs zs

module _ {A : Type 0} where
  pub swapped_order : {R : A → A → Type 0} {xs ys : List A} → Swapped R xs ys → SameUpToOrder xs ys
  swapped_order (same {xs = xs}) = Permᴰ.refl xs
  swapped_order (behind d) = Permᴰ.cons refl (swapped_order d)
  swapped_order (swap r) = Permᴰ.swap refl refl
  swapped_order (next d e) = Permᴰ.trans (swapped_order d) (swapped_order e)

  -- every order of elements that all have P
  pub order_swapped : (P : A → Type 0) {xs ys : List A} → SameUpToOrder xs ys → All P xs → Swapped (λ x y. P x × P y) xs ys
  order_swapped P Permᴰ.nil h = same
  order_swapped P (Permᴰ.cons e d) h = rw e (behind (order_swapped P d h.1))
  order_swapped P (Permᴰ.swap e₁ e₂) h = rw (← e₁, ← e₂) (swap (h.0, h.1.0))
  order_swapped P (Permᴰ.trans d e) h = next (order_swapped P d h) (order_swapped P e (All-order P d h))

  pub swapped_after : {R : A → A → Type 0} (l : List A) {xs ys : List A} → Swapped R xs ys → Swapped R (l ++ xs) (l ++ ys)
  swapped_after [] d = d
  swapped_after (x ∷ l) d = behind (swapped_after l d)

  -- ---- a sort by a number that is the same for elements that R relates

  module _ (R : A → A → Type 0) (f : A → ℕ) (level : (x y : A) → R x y → f x ≡ f y) where
    insert_swapped : (c : A) {xs ys : List A} → Swapped R xs ys → Swapped R (insert f c xs) (insert f c ys)
    insert_swapped c same = same
    insert_swapped c (behind {x = x} {xs = xs} {ys = ys} d) =
        elim (by_le (f c) (f x)) [
          | inl h ↦ rw (insert_first f c x xs h, insert_first f c x ys h) (behind (behind d))
          | inr h ↦ rw (insert_later f c x xs h, insert_later f c x ys h) (behind (insert_swapped c d))
        ]
    insert_swapped c (swap {x = x} {y = y} {xs = l} r) =
        let e = level x y r in
        elim (by_le (f c) (f x)) [
          | inl h ↦ rw (insert_first f c x (y ∷ l) h, insert_first f c y (x ∷ l) (omega arith)) (behind (swap r))
          | inr h ↦
              let k : f y < f c = omega arith in
              rw (insert_later f c x (y ∷ l) h, insert_later f c y (x ∷ l) k, insert_later f c y l k, insert_later f c x l h) (swap r)
        ]
    insert_swapped c (next d e) = next (insert_swapped c d) (insert_swapped c e)

    -- two insertions in either order
    module _ (x y : A) (related : f x ≡ f y → R x y) where
      insert_front : (l : List A) → insert f x l ≡ x ∷ l → insert f y l ≡ y ∷ l → Swapped R (insert f x (y ∷ l)) (insert f y (x ∷ l))
      insert_front l p q =
          elim (by_lt (f x) (f y)) [
            | inl h ↦ rw (insert_first f x y l (omega arith), insert_later f y x l h, q) same
            | inr h ↦
                elim (by_lt (f y) (f x)) [
                  | inl k ↦ rw (insert_later f x y l k, insert_first f y x l h, p) same
                  | inr k ↦ rw (insert_first f x y l k, insert_first f y x l h) (swap (related (omega arith)))
                ]
          ]

      insert_two : (l : List A) → Swapped R (insert f x (insert f y l)) (insert f y (insert f x l))
      insert_two [] =
          let p = insert_least f x [] tt in
          let q = insert_least f y [] tt in
          rw (p, q) (insert_front [] p q)
      insert_two (z ∷ l) =
          elim (by_le (f x) (f z)) [
            | inl h ↦
                elim (by_le (f y) (f z)) [
                  | inl k ↦
                      rw (insert_first f x z l h, insert_first f y z l k)
                      (insert_front (z ∷ l) (insert_first f x z l h) (insert_first f y z l k))
                  | inr k ↦
                      rw (insert_later f y z l k, insert_first f x z l h, insert_first f x z (insert f y l) h)
                      (rw (insert_later f y x (z ∷ l) (omega arith), insert_later f y z l k) same)
                ]
            | inr h ↦
                elim (by_le (f y) (f z)) [
                  | inl k ↦
                      rw (insert_later f x z l h, insert_first f y z l k, insert_first f y z (insert f x l) k)
                      (rw (insert_later f x y (z ∷ l) (omega arith), insert_later f x z l h) same)
                  | inr k ↦
                      rw (insert_later f x z l h, insert_later f y z l k)
                      (rw (insert_later f x z (insert f y l) h, insert_later f y z (insert f x l) k) (behind (insert_two l)))
                ]
          ]

    pub sort_swapped : (Q : A → A → Type 0) → ((x y : A) → Q x y → f x ≡ f y → R x y) → {xs ys : List A} → Swapped Q xs ys
        → Swapped R (sort_by f xs) (sort_by f ys)
    unfolding sort_by
    sort_swapped Q q same = same
    sort_swapped Q q (behind {x = x} d) = insert_swapped x (sort_swapped Q q d)
    sort_swapped Q q (swap {x = x} {y = y} {xs = l} r) = insert_two x y (q x y r) (sort_by f l)
    sort_swapped Q q (next d e) = next (sort_swapped Q q d) (sort_swapped Q q e)

module _ {A B : Type 0} where
  pub map_swapped : {Q : A → A → Type 0} (R : B → B → Type 0) (g : A → B) → ((x y : A) → Q x y → R (g x) (g y)) → {xs ys : List A} → Swapped Q xs ys
      → Swapped R (map g xs) (map g ys)
  map_swapped R g h same = same
  map_swapped R g h (behind d) = behind (map_swapped R g h d)
  map_swapped R g h (swap {x = x} {y = y} q) = swap (h x y q)
  map_swapped R g h (next d e) = next (map_swapped R g h d) (map_swapped R g h e)

  -- a state that goes through two such neighbours in either order to the same end
  pub foldl_swapped : {R : A → A → Type 0} (h : B → A → B) → ((b : B) (x y : A) → R x y → h (h b x) y ≡ h (h b y) x) → {xs ys : List A} → Swapped R xs ys
      → (b : B) → foldl h b xs ≡ foldl h b ys
  foldl_swapped h k same b = refl
  foldl_swapped h k (behind {x = x} d) b = foldl_swapped h k d (h b x)
  foldl_swapped h k (swap {x = x} {y = y} {xs = l} r) b = ap (λ (c : B). foldl h c l) (k b x y r)
  foldl_swapped h k (next d e) b = foldl_swapped h k d b ∙ foldl_swapped h k e b
