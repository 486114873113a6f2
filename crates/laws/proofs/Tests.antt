-- Tests on the elements of a list: what passes, how many, where the first and the last that passes stand; `any`, `every`, `keep`, `below`, `position`.
use Prim.Native.Nat.{ℕ, zero, suc, ◌+◌, ◌≤◌, ◌<◌}
use mathlib.Core.Bool.{Bool, true, false, cond, ◌&&◌, and-false, or-true, false≢true}
use mathlib.Core.List.{List, [], ◌∷◌, ◌++◌, map, append-nil, map-append, Memᴰ}
use mathlib.Core.Logic.{inl, inr}
use mathlib.Core.Path.{◌≡◌, refl, sym, ap, ◌∙◌}
use native.Mathlib.Numerals.{add-one}
use native.Mathlib.Omega.{arith}
use borrow.Author.Count as count
use lib.Dec.{eqb}
use lib.ListN.{length, get_or}
use Rattle.rules.specs.Lists.{All, keep, any, every, below, position, flag, last_or}
use Rattle.laws.proofs.Lists.{All-imp, keep_none, keep_append}
use Rattle.laws.proofs.Order.{by_bool, by_eq}

module _ {A : Type 0} where
  -- ---- members

  module _ (f : A → Bool) where
    pub any_member : {x : A} {xs : List A} → f x ≡ true → Memᴰ x xs → any f xs ≡ true
    unfolding any
    any_member t (Memᴰ.head e) = rw (ap f (sym e) ∙ t)
    any_member t (Memᴰ.tail {x = y} m) = rw (any_member t m) (or-true (f y))

    pub any_never : (xs : List A) → ((x : A) → Memᴰ x xs → f x ≡ false) → any f xs ≡ false
    unfolding any
    any_never [] h = refl
    any_never (x ∷ xs) h = rw (h x (Memᴰ.head refl)) (any_never xs (λ y m. h y (Memᴰ.tail m)))

  -- ---- what is kept

  pub keep_same : (f g : A → Bool) (xs : List A) → All (λ x. f x ≡ g x) xs → keep f xs ≡ keep g xs
  unfolding keep
  keep_same f g [] h = refl
  keep_same f g (x ∷ xs) h = rw (h.0, keep_same f g xs h.1)

  pub keep_few : (f : A → Bool) (xs : List A) → length (keep f xs) ≤ length xs
  unfolding keep
  keep_few f [] = omega arith
  keep_few f (x ∷ xs) = let few = keep_few f xs in elim (by_bool (f x)) [ inl t ↦ rw t (omega arith) | inr t ↦ rw t (omega arith) ]

  pub keep_all : (f : A → Bool) (xs : List A) → All (λ x. f x ≡ true) xs → keep f xs ≡ xs
  unfolding keep
  keep_all f [] h = refl
  keep_all f (x ∷ xs) h = rw (h.0, keep_all f xs h.1)

module _ {A : Type 0} (f : A → Bool) where
  pub length_keep_last : (xs : List A) (x : A) → length (keep f (xs ++ (x ∷ []))) ≡ length (keep f xs) + cond (f x) 1 0
  unfolding keep
  length_keep_last [] x = elim (by_bool (f x)) [ inl t ↦ rw t | inr t ↦ rw t ]
  length_keep_last (y ∷ ys) x =
      elim (by_bool (f y)) [ inl t ↦ rw t (omega (arith, length_keep_last ys x)) | inr t ↦ rw t (length_keep_last ys x) ]

pub length_more : {A : Type 0} (b : Bool) (x : A) (xs : List A) → length (cond b (x ∷ xs) xs) ≡ length xs + cond b 1 0
length_more true x xs = omega arith
length_more false x xs = omega arith

-- ---- each number below n

module _ (f : ℕ → Bool) where
  pub below_none : below 0 f ≡ true
  unfolding below
  below_none = refl

  pub below_more : (n : ℕ) → below n f ≡ true → f n ≡ true → below (n + 1) f ≡ true
  unfolding below
  below_more n h e = rw add-one (rw (h, e))

  pub below_fails : (n k : ℕ) → k < n → f k ≡ false → below n f ≡ false
  unfolding below
  below_fails zero k h e = absurd (omega arith)
  below_fails (suc n) k h e =
      elim (by_eq k n) [
        | inl same ↦ rw (← same, e) (and-false (below k f))
        | inr other ↦ rw (below_fails n k (omega arith) e)
      ]

pub flag_small : (b : Bool) → flag b ≤ 1
flag_small true = omega arith
flag_small false = omega arith

pub flag_is : (b : Bool) → eqb (flag b) 1 ≡ b
flag_is true = refl
flag_is false = refl

-- ---- how many pass

module _ {A : Type 0} where
  unfoldable pub tally : (A → Bool) → List A → ℕ
  tally g [] = zero
  tally g (x ∷ xs) = flag (g x) + tally g xs

  module _ (g : A → Bool) where
    pub tally_keeps : (xs : List A) → length (keep g xs) ≡ tally g xs
    unfolding keep tally
    tally_keeps [] = refl
    tally_keeps (x ∷ xs) =
        let more = tally_keeps xs in elim (by_bool (g x)) [ inl t ↦ rw t (omega arith) | inr t ↦ rw t (omega arith) ]

    -- those that pass of those that a test keeps
    pub tally_kept : (h : A → Bool) (xs : List A) → tally g (keep h xs) ≡ tally (λ x. h x && g x) xs
    unfolding tally keep
    tally_kept h [] = refl
    tally_kept h (x ∷ xs) =
        elim (by_bool (h x)) [ inl t ↦ rw t (omega (arith, tally_kept h xs)) | inr t ↦ rw t (omega (arith, tally_kept h xs)) ]

pub tally_map : {A B : Type 0} (g : B → Bool) (f : A → B) (xs : List A) → tally g (map f xs) ≡ tally (λ x. g (f x)) xs
unfolding tally
tally_map g f [] = refl
tally_map g f (x ∷ xs) = ap (λ (n : ℕ). flag (g (f x)) + n) (tally_map g f xs)

-- ---- places that pass

module _ {A : Type 0} (f : A → Bool) where
  -- ---- the first place that passes
  pub position_at : (xs : List A) (v : ℕ) (d : A) → v < length xs → ((u : ℕ) → u < v → f (get_or xs u d) ≡ false) → f (get_or xs v d) ≡ true
      → position f xs ≡ v
  unfolding position
  position_at [] v d h none t = absurd (omega arith)
  position_at (x ∷ xs) zero d h none t = rw t
  position_at (x ∷ xs) (suc v) d h none t =
      rw (none 0 (omega arith)) (ap suc (position_at xs v d (omega arith) (λ u l. none (suc u) (omega arith)) t))

  pub position_none : (xs : List A) (d : A) → ((u : ℕ) → u < length xs → f (get_or xs u d) ≡ false) → position f xs ≡ length xs
  unfolding position
  position_none [] d none = refl
  position_none (x ∷ xs) d none = rw (none 0 (omega arith)) (ap suc (position_none xs d (λ u l. none (suc u) (omega arith))))

  pub position_found : (xs : List A) → position f xs < length xs → any f xs ≡ true
  unfolding any position
  position_found [] h = absurd (omega arith)
  position_found (x ∷ xs) h =
      elim (by_bool (f x)) [ inl t ↦ rw t | inr t ↦ let k : suc (position f xs) < suc (length xs) = rw t at h in rw t (position_found xs (omega arith)) ]

  pub position_lost : (xs : List A) → length xs ≤ position f xs → any f xs ≡ false
  unfolding any position
  position_lost [] h = refl
  position_lost (x ∷ xs) h =
      elim (by_bool (f x)) [
        | inl t ↦ let k : suc (length xs) ≤ 0 = rw t at h in absurd (omega arith)
        | inr t ↦ let k : suc (length xs) ≤ suc (position f xs) = rw t at h in rw t (position_lost xs (omega arith))
      ]

  -- where some element passes, the one at that place does
  pub position_passes : (xs : List A) (d : A) → any f xs ≡ true → (position f xs < length xs) × (f (get_or xs (position f xs) d) ≡ true)
  unfolding any position
  position_passes [] d t = absurd (false≢true t)
  position_passes (x ∷ xs) d t =
      elim (by_bool (f x)) [
        | inl e ↦ rw e (omega arith, e)
        | inr e ↦ let r = position_passes xs d (rw e at t) in rw e (omega arith, r.1)
      ]

-- ---- a search for the first place that passes

-- none of the first v elements passes
pub record Scanned (f : ℕ → Bool) (xs : List ℕ) (v : ℕ) : Type 0 where
  pub within : v ≤ length xs
  pub none : (u : ℕ) → u < v → f (get_or xs u 0) ≡ false

pub scanned_none : (f : ℕ → Bool) (xs : List ℕ) → Scanned f xs 0
scanned_none f xs = record { within = omega arith; none = λ u l. absurd (omega arith) }

module _ {f : ℕ → Bool} {xs : List ℕ} {v : ℕ} (s : Scanned f xs v) where
  pub scanned_on : v < length xs → f (get_or xs v 0) ≡ false → Scanned f xs (v + 1)
  scanned_on h e = record { within = omega arith; none = count.below_more (λ u. f (get_or xs u 0) ≡ false) v s.none e }

  pub scanned_at : v < length xs → f (get_or xs v 0) ≡ true → v ≡ position f xs
  scanned_at h t = sym (position_at f xs v 0 h s.none t)

  pub scanned_end : length xs ≤ v → length xs ≡ position f xs
  scanned_end h = sym (position_none f xs 0 (λ u l. s.none u (omega arith)))

module _ {A : Type 0} (f : A → Bool) where
  -- ---- every element passes, or one fails
  pub every_passes : (xs : List A) (d : A) → ((u : ℕ) → u < length xs → f (get_or xs u d) ≡ true) → every f xs ≡ true
  unfolding every
  every_passes [] d h = refl
  every_passes (x ∷ xs) d h = rw (h 0 (omega arith)) (every_passes xs d (λ u l. h (suc u) (omega arith)))

  pub every_fails : (xs : List A) (d : A) (u : ℕ) → u < length xs → f (get_or xs u d) ≡ false → every f xs ≡ false
  unfolding every
  every_fails [] d u h e = absurd (omega arith)
  every_fails (x ∷ xs) d zero h e = rw e
  every_fails (x ∷ xs) d (suc u) h e = elim (by_bool (f x)) [ inl t ↦ rw t (every_fails xs d u (omega arith) e) | inr t ↦ rw t ]

-- ---- two tests that agree; a test of a map
module _ {A : Type 0} (f g : A → Bool) where
  pub position_agree : (xs : List A) → All (λ x. f x ≡ g x) xs → position f xs ≡ position g xs
  unfolding position
  position_agree [] h = refl
  position_agree (x ∷ xs) h = rw (h.0, position_agree xs h.1)

module _ {A B : Type 0} (f : B → Bool) (h : A → B) where
  pub position_map : (xs : List A) → position f (map h xs) ≡ position (λ x. f (h x)) xs
  unfolding position
  position_map [] = refl
  position_map (x ∷ xs) = rw (position_map xs)

  pub every_map : (xs : List A) → every f (map h xs) ≡ every (λ x. f (h x)) xs
  unfolding every
  every_map [] = refl
  every_map (x ∷ xs) = rw (every_map xs)

-- ---- the last that passes

module _ {A : Type 0} where
  last_more : (d : A) (xs : List A) (x : A) → last_or d (xs ++ (x ∷ [])) ≡ x
  last_more d [] x = refl
  last_more d (y ∷ xs) x = last_more y xs x

module _ {A B : Type 0} (f : A → Bool) (g : A → B) (d : B) where
  -- the last of those that pass, with one element more
  last_kept : (xs : List A) (x : A) → last_or d (map g (keep f (xs ++ (x ∷ [])))) ≡ cond (f x) (g x) (last_or d (map g (keep f xs)))
  unfolding keep
  last_kept xs x =
      rw (keep_append f xs (x ∷ []))
      (elim (by_bool (f x)) [
        | inl t ↦ rw (t, map-append g (keep f xs) (x ∷ [])) (last_more d (map g (keep f xs)) (g x))
        | inr t ↦ rw (t, append-nil)
      ])

  last_front : (xs ys : List A) → All (λ y. f y ≡ false) ys → last_or d (map g (keep f (xs ++ ys))) ≡ last_or d (map g (keep f xs))
  last_front xs ys h = rw (keep_append f xs ys, keep_none f ys h, append-nil)

-- the last of the changes that events of a kind make, of those that pass a test
module _ {A C B : Type 0} (kind : A → Bool) (make : A → C) (to : C → B) where
  abbrev pub latest : (C → Bool) → B → List A → B
  latest test d xs = last_or d (map to (keep test (map make (keep kind xs))))

  -- the two tests as one
  pub fuse : (test : C → Bool) (xs : List A)
      → map to (keep test (map make (keep kind xs))) ≡ map (λ x. to (make x)) (keep (λ x. kind x && test (make x)) xs)
  unfolding keep
  fuse test [] = refl
  fuse test (x ∷ xs) =
      elim (by_bool (kind x)) [
        | inl k ↦ rw k (elim (by_bool (test (make x))) [ inl t ↦ rw t (ap (λ l. to (make x) ∷ l) (fuse test xs)) | inr t ↦ rw t (fuse test xs) ])
        | inr k ↦ rw k (fuse test xs)
      ]

  pub latest_more : (test : C → Bool) (d : B) (xs : List A) (x : A)
      → latest test d (xs ++ (x ∷ [])) ≡ cond (kind x && test (make x)) (to (make x)) (latest test d xs)
  latest_more test d xs x =
      rw (fuse test (xs ++ (x ∷ [])), fuse test xs) (last_kept (λ x. kind x && test (make x)) (λ x. to (make x)) d xs x)

  -- those behind that fail the test play no part
  pub latest_front : (test : C → Bool) (d : B) (xs ys : List A) → All (λ y. test (make y) ≡ false) ys
      → latest test d (xs ++ ys) ≡ latest test d xs
  latest_front test d xs ys h =
      let fails : (y : A) → test (make y) ≡ false → (kind y && test (make y)) ≡ false = λ y k. rw (k, and-false (kind y)) in
      rw (fuse test (xs ++ ys), fuse test xs)
      (last_front (λ x. kind x && test (make x)) (λ x. to (make x)) d xs ys (All-imp fails ys h))

  pub latest_same : (test other : C → Bool) (d : B) (xs : List A) → All (λ x. test (make x) ≡ other (make x)) xs
      → latest test d xs ≡ latest other d xs
  latest_same test other d xs h =
      let same : (x : A) → test (make x) ≡ other (make x) → (kind x && test (make x)) ≡ (kind x && other (make x)) = λ x k. rw k in
      rw (fuse test xs, fuse other xs)
      (ap (λ l. last_or d (map (λ x. to (make x)) l))
      (keep_same (λ x. kind x && test (make x)) (λ x. kind x && other (make x)) xs (All-imp same xs h)))
