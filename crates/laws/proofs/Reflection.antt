-- Tests and facts, connective by connective: what `&&`, `||`, `every` and the like say, if their parts say theirs.
use Prim.Native.Nat.{ℕ, zero, suc, ◌≤◌, ◌<◌}
use mathlib.Core.Bool.{Bool, true, false, cond, not, ◌&&◌, ◌||◌, beq, true≢false, false≢true}
use mathlib.Core.List.{List, [], ◌∷◌}
use mathlib.Core.Logic.Iff
use mathlib.Core.Logic.{◌↔◌, ◌⊎◌, inl, inr, ⊎_elim}
use mathlib.Core.Path.{◌≡◌, refl, sym, subst}
use lib.Dec.{eqb, leb, ltb}
use native.Mathlib.Nat.{eq-or-lt_of_le, le_of_suc-le-suc}
use native.Mathlib.Omega.{arith}
use borrow.Author.Tests.{ltb-true, lt-ltb, leb-true, le-leb, eqb-true, eq-eqb}
use Rattle.rules.specs.Lists.{any, every, below, All, Some, here, later}
use Rattle.laws.specs.Says.{Says}
use Rattle.laws.proofs.Lists.{Some-cases}

-- ---- tests of one thing

pub says_flag : (b : Bool) → Says b (b ≡ true)
says_flag b = (λ t. t, λ t. t)

pub says_true : Says true (Unit {0})
says_true = (λ t. tt, λ u. refl)

pub says_eq : (a b : ℕ) → Says (eqb a b) (a ≡ b)
says_eq a b = (eqb-true a b, eq-eqb a b)

pub says_lt : (a b : ℕ) → Says (ltb a b) (a < b)
says_lt a b = (ltb-true a b, lt-ltb a b)

pub says_le : (a b : ℕ) → Says (leb a b) (a ≤ b)
says_le a b = (leb-true a b, le-leb a b)

pub says_beq : (a b : Bool) → Says (beq a b) (a ≡ b)
says_beq true true = (λ t. refl, λ e. refl)
says_beq true false = (λ t. sym t, λ e. sym e)
says_beq false true = (λ t. t, λ e. e)
says_beq false false = (λ t. refl, λ e. refl)

pub says_not : (b : Bool) → Says (not b) (b ≡ false)
says_not true = (λ t. sym t, λ e. sym e)
says_not false = (λ t. refl, λ e. refl)

-- ---- connectives

module _ {A B : Type 0} where
  pub says_and : {a b : Bool} → Says a A → Says b B → Says (a && b) (A × B)
  says_and {a = true} p q = (λ t. (p.0 refl, q.0 t), λ x. q.1 x.1)
  says_and {a = false} p q = (λ t. absurd (false≢true t), λ x. p.1 x.0)

  pub says_or : {a b : Bool} → Says a A → Says b B → Says (a || b) (A ⊎ B)
  says_or {a = true} p q = (λ t. inl (p.0 refl), λ x. refl)
  says_or {a = false} p q = (λ t. inr (q.0 t), λ x. elim x [ inl y ↦ absurd (false≢true (p.1 y)) | inr y ↦ q.1 y ])

  pub says_imp : {a b : Bool} → Says a A → Says b B → Says (not a || b) (A → B)
  says_imp {a = true} p q = (λ t x. q.0 t, λ f. q.1 (f (p.0 refl)))
  says_imp {a = false} p q = (λ t x. absurd (false≢true (p.1 x)), λ f. refl)

  pub says_cond : (c : Bool) {a b : Bool} → Says a A → Says b B → Says (cond c a b) ((c ≡ true → A) × (c ≡ false → B))
  says_cond true p q = (λ t. (λ e. p.0 t, λ e. absurd (true≢false e)), λ x. p.1 (x.0 refl))
  says_cond false p q = (λ t. (λ e. absurd (false≢true e), λ e. q.0 t), λ x. q.1 (x.1 refl))

  -- the same fact, said in another way
  pub says_as : {a : Bool} → Says a A → A ↔ B → Says a B
  says_as p e = Iff.trans p e

module _ {A B C : Type 0} where
  pub says_and3 : {a b c : Bool} → Says a A → Says b B → Says c C → Says (a && b && c) (A × B × C)
  says_and3 p q r = says_as (says_and (says_and p q) r) (λ x. (x.0.0, x.0.1, x.1), λ x. ((x.0, x.1), x.2))

  pub says_or3 : {a b c : Bool} → Says a A → Says b B → Says c C → Says (a || b || c) (A ⊎ B ⊎ C)
  says_or3 p q r =
      says_as (says_or (says_or p q) r) (
        λ x. elim x [ inl y ↦ elim y [ inl z ↦ inl z | inr z ↦ inr (inl z) ] | inr z ↦ inr (inr z) ],
        λ x. elim x [ inl z ↦ inl (inl z) | inr y ↦ elim y [ inl z ↦ inl (inr z) | inr z ↦ inr z ] ],
      )

module _ {A B C D : Type 0} where
  pub says_and4 : {a b c d : Bool} → Says a A → Says b B → Says c C → Says d D → Says (a && b && c && d) (A × B × C × D)
  says_and4 p q r s =
      says_as (says_and (says_and3 p q r) s) (λ x. (x.0.0, x.0.1, x.0.2, x.1), λ x. ((x.0, x.1, x.2), x.3))

-- ---- lists and numbers

module _ {A : Type 0} {f : A → Bool} {P : A → Type 0} (says : (x : A) → Says (f x) (P x)) where
  pub says_every : (xs : List A) → Says (every f xs) (All P xs)
  unfolding every
  says_every [] = says_true
  says_every (x ∷ xs) = says_and (says x) (says_every xs)

  pub says_any : (xs : List A) → Says (any f xs) (Some P xs)
  unfolding any
  says_any [] = (λ t. absurd (false≢true t), λ s. elim s [ ])
  says_any (x ∷ xs) = says_as (says_or (says x) (says_any xs)) (⊎_elim here later, Some-cases)

module _ {f : ℕ → Bool} {P : ℕ → Type 0} (says : (k : ℕ) → Says (f k) (P k)) where
  pub says_below : (n : ℕ) → Says (below n f) ((k : ℕ) → k < n → P k)
  unfolding below
  says_below zero = (λ t k h. absurd (omega arith), λ g. refl)
  says_below (suc n) =
      says_as (says_and (says_below n) (says n)) (
        λ x k h. ⊎_elim (λ e. subst P (sym e) x.1) (x.0 k) (eq-or-lt_of_le (le_of_suc-le-suc h)),
        λ g. (λ k h. g k (omega arith), g n (omega arith)),
      )
