-- What a loop over the places of a column cites: what is given from place i on, up to place m.
use Prim.Native.Nat.{ℕ, zero, suc, ◌+◌, ◌-◌, ◌≤◌, ◌<◌, max}
use mathlib.Core.Bool.{Bool, true, false, ◌&&◌, ◌||◌}
use mathlib.Core.List.{List, [], ◌∷◌, map}
use mathlib.Core.Path.{◌≡◌, refl, sym, ap, ◌∙◌}
use native.Mathlib.Nat.{sub-zero}
use native.Mathlib.Numerals.{add-one}
use native.Mathlib.Omega.{arith}
use Rattle.rules.specs.Lists.{any, every, flag}
use Rattle.laws.specs.Sort.{count}
use Rattle.laws.proofs.Sort.{count_cons, count_none}

abbrev pub rest_of : {A : Type 0} → (ℕ → A) → ℕ → ℕ → List A
rest_of f m i = map f (count i (m - i))

module _ {A : Type 0} (f : ℕ → A) (m : ℕ) where
  pub rest_all : map f (count 0 m) ≡ rest_of f m 0
  rest_all = rw sub-zero

  pub rest_cons : (i : ℕ) → i < m → rest_of f m i ≡ f i ∷ rest_of f m (i + 1)
  rest_cons i h = rw (count_cons i m h)

  pub rest_none : (i : ℕ) → m ≤ i → rest_of f m i ≡ []
  rest_none i h = rw (count_none i m h)

  module _ (p : A → Bool) where
    pub any_one : (i : ℕ) → i < m → any p (rest_of f m i) ≡ (p (f i) || any p (rest_of f m (i + 1)))
    unfolding any
    any_one i h = rw (rest_cons i h)

    none_in : (k a : ℕ) → ((j : ℕ) → a ≤ j → j < a + k → p (f j) ≡ false) → any p (map f (count a k)) ≡ false
    unfolding any count
    none_in zero a h = refl
    none_in (suc k) a h = rw (h a (omega arith) (omega arith)) (none_in k (suc a) (λ j l o. h j (omega arith) (omega arith)))

    -- none from place i on
    pub none_left : (i : ℕ) → ((j : ℕ) → i ≤ j → j < m → p (f j) ≡ false) → any p (rest_of f m i) ≡ false
    none_left i h = none_in (m - i) i (λ j l o. h j l (omega arith))

    -- none before place i
    pub none_before : (i : ℕ) → i ≤ m → ((j : ℕ) → j < i → p (f j) ≡ false) → any p (map f (count 0 m)) ≡ any p (rest_of f m i)
    none_before zero l h = ap (any p) rest_all
    none_before (suc i) l h =
        let e : any p (rest_of f m i) ≡ any p (rest_of f m (i + 1)) = any_one i (omega arith) ∙ rw (h i (omega arith)) in
        none_before i (omega arith) (λ j o. h j (omega arith)) ∙ e ∙ ap (λ (j : ℕ). any p (rest_of f m j)) (add-one i)

-- two places that give the same
pub rest_same : {A : Type 0} (f g : ℕ → A) (k a : ℕ) → ((j : ℕ) → a ≤ j → j < a + k → f j ≡ g j) → map f (count a k) ≡ map g (count a k)
unfolding count
rest_same f g zero a h = refl
rest_same f g (suc k) a h = rw (h a (omega arith) (omega arith), rest_same f g k (suc a) (λ j l o. h j (omega arith) (omega arith)))

pub every_one : (p : ℕ → Bool) (m i : ℕ) → i < m → every p (count i (m - i)) ≡ (p i && every p (count (i + 1) (m - (i + 1))))
unfolding every
every_one p m i h = rw (count_cons i m h)

pub every_none : (p : ℕ → Bool) (m i : ℕ) → m ≤ i → every p (count i (m - i)) ≡ true
unfolding every
every_none p m i h = rw (count_none i m h)

-- ---- flags
pub flag_or : (a b : Bool) → flag (a || b) ≡ max (flag a) (flag b)
flag_or true true = omega arith
flag_or true false = omega arith
flag_or false b = omega arith

-- a loop that tests each place
module _ (p : ℕ → Bool) (m i : ℕ) (b : Bool) (left : every p (count i (m - i)) ≡ b) (h : i < m) where
  pub every_fails : p i ≡ false → false ≡ b
  every_fails e = sym (every_one p m i h ∙ rw e) ∙ left

  pub every_goes : p i ≡ true → every p (count (i + 1) (m - (i + 1))) ≡ b
  every_goes e = sym (every_one p m i h ∙ rw e) ∙ left
