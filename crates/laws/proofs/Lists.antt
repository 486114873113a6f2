-- Laws of lists: what holds of all or of some elements, tests, the elements that pass one, the least, lengths and sums.
use Prim.Native.Nat.{ℕ, zero, suc, ◌+◌, ◌*◌, ◌≤◌, ◌<◌}
use mathlib.Core.Bool.{Bool, true, false, not, true≢false}
use mathlib.Core.List.{List, [], ◌∷◌, ◌++◌, map, flatten, flat_map, head?, append_assoc}
use mathlib.Core.Logic.{◌⊎◌, inl, inr}
use mathlib.Core.Option.{some}
use mathlib.Core.Path.{◌≡◌, refl, sym, subst}
use native.Mathlib.Nat.{le_refl, le_of_suc-le-suc}
use native.Mathlib.Omega.{arith}
use lib.ListN.{length, get_or, take, drop, length-append, take-append-drop}
use Rattle.rules.specs.Lists.{keep, any, is_empty, sum, All, Some, here, later}
use Rattle.laws.proofs.Order.{by_bool, by_le}

module _ {A : Type 0} where
  -- ---- all

  pub All-imp : {P Q : A → Type 0} → ((x : A) → P x → Q x) → (xs : List A) → All P xs → All Q xs
  All-imp f [] h = tt
  All-imp f (x ∷ xs) h = (f x h.0, All-imp f xs h.1)

  pub All-all : {P : A → Type 0} → ((x : A) → P x) → (xs : List A) → All P xs
  All-all f [] = tt
  All-all f (x ∷ xs) = (f x, All-all f xs)

  pub All-self : (R : A → A → Type 0) → ((x : A) → R x x) → (xs : List A) → All (λ x. Some (R x) xs) xs
  All-self R r [] = tt
  All-self R r (x ∷ xs) = (here (r x), All-imp (λ y s. later s) xs (All-self R r xs))

  pub All-both : (P Q : A → Type 0) (xs : List A) → All P xs → All Q xs → All (λ x. P x × Q x) xs
  All-both P Q [] h k = tt
  All-both P Q (x ∷ xs) h k = ((h.0, k.0), All-both P Q xs h.1 k.1)

  module _ (P : A → Type 0) where
    pub All-get : (xs : List A) (i : ℕ) (d : A) → All P xs → i < length xs → P (get_or xs i d)
    All-get [] i d h l = absurd (omega arith)
    All-get (x ∷ xs) zero d h l = h.0
    All-get (x ∷ xs) (suc i) d h l = All-get xs i d h.1 (le_of_suc-le-suc l)

    pub All-append : (xs ys : List A) → All P xs → All P ys → All P (xs ++ ys)
    All-append [] ys h k = k
    All-append (x ∷ xs) ys h k = (h.0, All-append xs ys h.1 k)

    pub All-left : (xs ys : List A) → All P (xs ++ ys) → All P xs
    All-left [] ys h = tt
    All-left (x ∷ xs) ys h = (h.0, All-left xs ys h.1)

    pub All-right : (xs ys : List A) → All P (xs ++ ys) → All P ys
    All-right [] ys h = h
    All-right (x ∷ xs) ys h = All-right xs ys h.1

    pub All-take : (n : ℕ) (xs : List A) → All P xs → All P (take n xs)
    All-take n xs h = All-left (take n xs) (drop n xs) (rw take-append-drop h)

    pub All-drop : (n : ℕ) (xs : List A) → All P xs → All P (drop n xs)
    All-drop n xs h = All-right (take n xs) (drop n xs) (rw take-append-drop h)

    pub All-flatten : (xss : List (List A)) → All (All P) xss → All P (flatten xss)
    unfolding flatten
    All-flatten [] h = tt
    All-flatten (xs ∷ xss) h = All-append xs (flatten xss) h.0 (All-flatten xss h.1)

    -- what is kept has what all have, and passes the test
    pub All-keep : (f : A → Bool) (xs : List A) → All P xs → All (λ x. P x × (f x ≡ true)) (keep f xs)
    unfolding keep
    All-keep f [] h = tt
    All-keep f (x ∷ xs) h =
        elim (by_bool (f x)) [ inl t ↦ rw t ((h.0, t), All-keep f xs h.1) | inr t ↦ rw t (All-keep f xs h.1) ]

    -- the first that is kept has what all have
    pub first_kept : (f : A → Bool) (xs : List A) (x : A) → All P xs → head? (keep f xs) ≡ some x → P x
    unfolding keep
    first_kept f [] x h e = absurd (let z : ◌≡◌ {A = ℕ} 0 1 = cc in omega arith)
    first_kept f (y ∷ ys) x h e =
        elim (by_bool (f y)) [
          | inl t ↦ let s : some y ≡ some x = rw t at e in subst P (cc) h.0
          | inr t ↦ first_kept f ys x h.1 (rw t at e)
        ]

  -- ---- some

  module _ {P : A → Type 0} where
    pub Some-cases : {x : A} {xs : List A} → Some P (x ∷ xs) → P x ⊎ Some P xs
    Some-cases (here p) = inl p
    Some-cases (later s) = inr s

    pub Some-imp : {Q : A → Type 0} → ((x : A) → P x → Q x) → {xs : List A} → Some P xs → Some Q xs
    Some-imp f (here {x = x} p) = here (f x p)
    Some-imp f (later s) = later (Some-imp f s)

    -- elements that all pass are kept
    pub Some-keep : (f : A → Bool) → ((x : A) → P x → f x ≡ true) → {xs : List A} → Some P xs → Some P (keep f xs)
    unfolding keep
    Some-keep f pass (here {x = x} p) = rw (pass x p) (here p)
    Some-keep f pass (later {x = x} s) =
        elim (by_bool (f x)) [ inl t ↦ rw t (later (Some-keep f pass s)) | inr t ↦ rw t (Some-keep f pass s) ]

  -- ---- tests

  module _ (f : A → Bool) where
    pub any_none : (xs : List A) → any f xs ≡ false → All (λ x. f x ≡ false) xs
    unfolding any
    any_none [] e = tt
    any_none (x ∷ xs) e = elim (by_bool (f x)) [ inl t ↦ absurd (true≢false (rw t at e)) | inr t ↦ (t, any_none xs (rw t at e)) ]

    -- those in front that fail are passed over
    pub any_after : (xs ys : List A) → any f xs ≡ false → any f (xs ++ ys) ≡ any f ys
    unfolding any
    any_after [] ys e = refl
    any_after (x ∷ xs) ys e =
        elim (by_bool (f x)) [ inl t ↦ absurd (true≢false (rw t at e)) | inr t ↦ rw t (any_after xs ys (rw t at e)) ]

    -- a list has an element that passes exactly if those that pass are some
    pub any_kept : (xs : List A) → any f xs ≡ not (is_empty (keep f xs))
    unfolding any keep
    any_kept [] = refl
    any_kept (x ∷ xs) = elim (by_bool (f x)) [ inl t ↦ rw t | inr t ↦ rw t (any_kept xs) ]

    pub keep_none : (xs : List A) → All (λ x. f x ≡ false) xs → keep f xs ≡ []
    unfolding keep
    keep_none [] h = refl
    keep_none (x ∷ xs) h = rw h.0 (keep_none xs h.1)

  -- ---- the least

  -- a number that is that of some element, and not above that of any
  pub least : (f : A → ℕ) (x : A) (xs : List A) → (b : ℕ) × All (λ y. b ≤ f y) (x ∷ xs) × Some (λ y. f y ≡ b) (x ∷ xs)
  least f x [] = (f x, (le_refl (f x), tt), here refl)
  least f x (y ∷ ys) =
      let (b, low, met) = least f y ys in
      elim (by_le (f x) b) [
        | inl o ↦ (f x, (le_refl (f x), All-imp (λ z k. omega arith) (y ∷ ys) low), here refl)
        | inr o ↦ (b, (omega arith, low), later met)
      ]

  -- ---- lengths

  pub by_four : (P : List A → Type 0) → ((a b c d : A) → P (a ∷ b ∷ c ∷ d ∷ [])) → (xs : List A) → length xs ≡ 4 → P xs
  by_four P h [] e = absurd (omega arith)
  by_four P h (a ∷ []) e = absurd (omega arith)
  by_four P h (a ∷ b ∷ []) e = absurd (omega arith)
  by_four P h (a ∷ b ∷ c ∷ []) e = absurd (omega arith)
  by_four P h (a ∷ b ∷ c ∷ d ∷ []) e = h a b c d
  by_four P h (a ∷ b ∷ c ∷ d ∷ x ∷ xs) e = absurd (omega arith)

  pub length_flatten : (xss : List (List A)) → length (flatten xss) ≡ sum (map length xss)
  unfolding flatten sum
  length_flatten [] = refl
  length_flatten (xs ∷ xss) = rw (length-append, length_flatten xss)

  pub flatten_append : (xss yss : List (List A)) → flatten (xss ++ yss) ≡ flatten xss ++ flatten yss
  unfolding flatten
  flatten_append [] yss = refl
  flatten_append (xs ∷ xss) yss = rw (flatten_append xss yss) (sym (append_assoc xs (flatten xss) (flatten yss)))

  -- lists of one length
  pub length_flatten_each : (n : ℕ) (xss : List (List A)) → All (λ xs. length xs ≡ n) xss → length (flatten xss) ≡ n * length xss
  unfolding flatten
  length_flatten_each n [] h = omega arith
  length_flatten_each n (xs ∷ xss) h = rw length-append (omega (arith, length_flatten_each n xss h.1))

pub sum_append : (xs ys : List ℕ) → sum (xs ++ ys) ≡ sum xs + sum ys
unfolding sum
sum_append [] ys = omega arith
sum_append (x ∷ xs) ys = omega (arith, sum_append xs ys)

-- ---- two types of elements

module _ {A B : Type 0} where
  pub empty_same : (xs : List A) (ys : List B) → length xs ≡ length ys → is_empty xs ≡ is_empty ys
  empty_same [] [] h = refl
  empty_same [] (y ∷ ys) h = absurd (omega arith)
  empty_same (x ∷ xs) [] h = absurd (omega arith)
  empty_same (x ∷ xs) (y ∷ ys) h = refl

  pub All-unmap : (Q : B → Type 0) (f : A → B) (xs : List A) → All Q (map f xs) → All (λ x. Q (f x)) xs
  All-unmap Q f [] h = tt
  All-unmap Q f (x ∷ xs) h = (h.0, All-unmap Q f xs h.1)

  module _ {P : A → Type 0} (Q : B → Type 0) where
    pub All-map : (f : A → B) → ((x : A) → P x → Q (f x)) → (xs : List A) → All P xs → All Q (map f xs)
    All-map f h [] k = tt
    All-map f h (x ∷ xs) k = (h x k.0, All-map f h xs k.1)

    pub All-flat_map : (f : A → List B) → ((x : A) → P x → All Q (f x)) → (xs : List A) → All P xs → All Q (flat_map f xs)
    unfolding flat_map
    All-flat_map f h [] k = tt
    All-flat_map f h (x ∷ xs) k = All-append Q (f x) (flat_map f xs) (h x k.0) (All-flat_map f h xs k.1)

    pub Some-map : (f : A → B) → ((x : A) → P x → Q (f x)) → {xs : List A} → Some P xs → Some Q (map f xs)
    Some-map f h (here {x = x} p) = here (h x p)
    Some-map f h (later s) = later (Some-map f h s)

-- ---- those that pass a test

module _ {A : Type 0} (f : A → Bool) where
  pub keep_passes : (xs : List A) → All (λ x. f x ≡ true) (keep f xs)
  keep_passes xs = All-imp (λ x h. h.1) (keep f xs) (All-keep (λ x. Unit {0}) f xs (All-all (λ x. tt) xs))

  pub keep_append : (xs ys : List A) → keep f (xs ++ ys) ≡ keep f xs ++ keep f ys
  unfolding keep
  keep_append [] ys = refl
  keep_append (x ∷ xs) ys = elim (by_bool (f x)) [ inl t ↦ rw (t, keep_append xs ys) | inr t ↦ rw t (keep_append xs ys) ]
