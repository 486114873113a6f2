-- Laws of lists that come about step by step: the first that passes is changed, a list is turned round, a state goes through a list.
use Prim.Native.Nat.{ℕ, ◌≤◌}
use mathlib.Core.Bool.{Bool, true, false, true≢false, false≢true}
use mathlib.Core.List.{List, [], ◌∷◌, ◌++◌, foldl, reverse_aux}
use mathlib.Core.Logic.{inl, inr}
use mathlib.Core.Path.{◌≡◌, refl}
use native.Mathlib.Nat.{le_refl}
use native.Mathlib.Omega.{arith}
use lib.ListN.{get_or, set}
use Rattle.rules.specs.Lists.{any, position, change_first, All, Some, here, later}
use Rattle.laws.specs.Sort.{Rises, FallsFrom}
use Rattle.laws.proofs.Order.{by_bool}
use Rattle.laws.proofs.Lists.{All-imp, All-all}

module _ {A : Type 0} where
  -- ---- the first that passes is changed

  module _ (f : A → Bool) (g : A → A) where
    pub set_position : (d : A) (xs : List A) → set xs (position f xs) (g (get_or xs (position f xs) d)) ≡ change_first f g xs
    unfolding position change_first
    set_position d [] = refl
    set_position d (x ∷ xs) = elim (by_bool (f x)) [ inl t ↦ rw t | inr t ↦ rw (t, set_position d xs) ]

    pub change_none : (xs : List A) → any f xs ≡ false → change_first f g xs ≡ xs
    unfolding any change_first
    change_none [] e = refl
    change_none (x ∷ xs) e =
        elim (by_bool (f x)) [ inl t ↦ absurd (true≢false (rw t at e)) | inr t ↦ rw (t, change_none xs (rw t at e)) ]

    pub change_after : (xs ys : List A) → any f xs ≡ false → change_first f g (xs ++ ys) ≡ xs ++ change_first f g ys
    unfolding any change_first
    change_after [] ys e = refl
    change_after (x ∷ xs) ys e =
        elim (by_bool (f x)) [ inl t ↦ absurd (true≢false (rw t at e)) | inr t ↦ rw (t, change_after xs ys (rw t at e)) ]

    pub All-change : (P Q : A → Type 0) → ((x : A) → P x → Q x) → ((x : A) → f x ≡ true → P x → Q (g x))
        → (xs : List A) → All P xs → All Q (change_first f g xs)
    unfolding change_first
    All-change P Q k c [] h = tt
    All-change P Q k c (x ∷ xs) h =
        elim (by_bool (f x))
        [ inl t ↦ rw t (c x t h.0, All-imp k xs h.1) | inr t ↦ rw t (k x h.0, All-change P Q k c xs h.1) ]

    pub Some-change : {P : A → Type 0} → ((x : A) → P x → P (g x)) → {xs : List A} → Some P xs → Some P (change_first f g xs)
    unfolding change_first
    Some-change k (here {x = x} p) = elim (by_bool (f x)) [ inl t ↦ rw t (here (k x p)) | inr t ↦ rw t (here p) ]
    Some-change k (later {x = x} s) = elim (by_bool (f x)) [ inl t ↦ rw t (later s) | inr t ↦ rw t (later (Some-change k s)) ]

    pub Some-changed : (P : A → Type 0) → ((x : A) → f x ≡ true → P (g x)) → (xs : List A) → any f xs ≡ true → Some P (change_first f g xs)
    unfolding any change_first
    Some-changed P c [] e = absurd (false≢true e)
    Some-changed P c (x ∷ xs) e =
        elim (by_bool (f x)) [ inl t ↦ rw t (here (c x t)) | inr t ↦ rw t (later (Some-changed P c xs (rw t at e))) ]

  -- where the change keeps what passes, some pass as before
  pub any_change : (f : A → Bool) (g : A → A) → ((x : A) → f (g x) ≡ f x) → (xs : List A) → any f (change_first f g xs) ≡ any f xs
  unfolding any change_first
  any_change f g stays [] = refl
  any_change f g stays (x ∷ xs) =
      elim (by_bool (f x)) [ inl t ↦ rw t (rw (stays x, t)) | inr t ↦ rw t (rw (t, any_change f g stays xs)) ]

  -- two such changes in either order
  pub change_both : (f : A → Bool) (g h : A → A) → ((x : A) → f (g x) ≡ f x) → ((x : A) → f (h x) ≡ f x) → ((x : A) → h (g x) ≡ g (h x))
      → (xs : List A) → change_first f h (change_first f g xs) ≡ change_first f g (change_first f h xs)
  unfolding change_first
  change_both f g h stays keeps swaps [] = refl
  change_both f g h stays keeps swaps (x ∷ xs) =
      elim (by_bool (f x)) [
        | inl t ↦ rw t (rw (stays x, keeps x, t, swaps x))
        | inr t ↦ rw t (rw (t, change_both f g h stays keeps swaps xs))
      ]

  -- ---- falling lists

  module _ (f : A → ℕ) where
    pub falls_up : (a b : ℕ) (xs : List A) → a ≤ b → FallsFrom f a xs → FallsFrom f b xs
    falls_up a b [] l h = tt
    falls_up a b (x ∷ xs) l h = (omega arith, h.1)

    pub falls_after : (a : ℕ) (xs ys : List A) → FallsFrom f a (xs ++ ys) → FallsFrom f a ys
    falls_after a [] ys h = h
    falls_after a (x ∷ xs) ys h = falls_up (f x) a ys h.0 (falls_after (f x) xs ys h.1)

    -- a falling list turned round, in front of one that rises from where it fell from
    pub reverse_rises : (a : ℕ) (xs ys : List A) → FallsFrom f a xs → All (λ y. a ≤ f y) ys → Rises f ys → Rises f (reverse_aux xs ys)
    reverse_rises a [] ys h l r = r
    reverse_rises a (x ∷ xs) ys h l r =
        let above : All (λ y. f x ≤ f y) ys = All-imp (λ y k. omega arith) ys l in
        reverse_rises (f x) xs (x ∷ ys) h.1 (le_refl (f x), above) (above, r)

  -- ---- turning round

  pub All-reverse : (P : A → Type 0) (xs ys : List A) → All P xs → All P ys → All P (reverse_aux xs ys)
  All-reverse P [] ys h k = k
  All-reverse P (x ∷ xs) ys h k = All-reverse P xs (x ∷ ys) h.1 (h.0, k)

  reverse_after : {P : A → Type 0} (xs ys : List A) → Some P ys → Some P (reverse_aux xs ys)
  reverse_after [] ys s = s
  reverse_after (x ∷ xs) ys s = reverse_after xs (x ∷ ys) (later s)

  pub Some-reverse : {P : A → Type 0} {xs : List A} (ys : List A) → Some P xs → Some P (reverse_aux xs ys)
  Some-reverse ys (here {x = x} {xs = xs} p) = reverse_after xs (x ∷ ys) (here p)
  Some-reverse ys (later {x = x} s) = Some-reverse (x ∷ ys) s

-- ---- a state that goes through a list

module _ {A B : Type 0} (f : B → A → B) where
  -- what every step keeps
  pub foldl_keeps : (P : B → Type 0) (Q : A → Type 0) → ((b : B) (x : A) → Q x → P b → P (f b x))
      → (xs : List A) (b : B) → All Q xs → P b → P (foldl f b xs)
  foldl_keeps P Q k [] b h p = p
  foldl_keeps P Q k (x ∷ xs) b h p = foldl_keeps P Q k xs (f b x) h.1 (k b x h.0 p)

  -- what one step brings about and every step keeps, while I holds
  pub foldl_brings : (I P : B → Type 0) (Q : A → Type 0) → ((b : B) (x : A) → I b → I (f b x)) → ((b : B) (x : A) → P b → P (f b x))
      → ((b : B) (x : A) → I b → Q x → P (f b x)) → {xs : List A} → Some Q xs → (b : B) → I b → P (foldl f b xs)
  foldl_brings I P Q i k c (here {x = x} {xs = xs} q) b h =
      foldl_keeps P (λ y. Unit {0}) (λ b y u p. k b y p) xs (f b x) (All-all (λ y. tt) xs) (c b x h q)
  foldl_brings I P Q i k c (later {x = x} s) b h = foldl_brings I P Q i k c s (f b x) (i b x h)

  -- what every step keeps that goes on to a number not below the one before, in a list that rises
  module _ (P : ℕ → B → Type 0) (Q : A → Type 0) (h : A → ℕ) (k : (s : ℕ) (b : B) (x : A) → s ≤ h x → Q x → P s b → P (h x) (f b x)) where
    pub foldl_rises : (xs : List A) (s : ℕ) (b : B) → All (λ x. s ≤ h x) xs → Rises h xs → All Q xs → P s b → (t : ℕ) × P t (foldl f b xs)
    foldl_rises [] s b l r q p = (s, p)
    foldl_rises (x ∷ xs) s b l r q p = foldl_rises xs (h x) (f b x) r.0 r.1 q.1 (k s b x l.0 q.0 p)

    -- the same, up to some element
    pub foldl_before : (xs : List A) (y : A) (ys : List A) (s : ℕ) (b : B) → All (λ x. s ≤ h x) (xs ++ (y ∷ ys)) → Rises h (xs ++ (y ∷ ys))
        → All Q (xs ++ (y ∷ ys)) → P s b → (t : ℕ) × (t ≤ h y) × Q y × P t (foldl f b xs)
    foldl_before [] y ys s b l r q p = (s, l.0, q.0, p)
    foldl_before (x ∷ xs) y ys s b l r q p = foldl_before xs y ys (h x) (f b x) r.0 r.1 q.1 (k s b x l.0 q.0 p)
