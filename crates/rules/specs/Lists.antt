-- Words on lists, tests and lent arrays that the sections share.
use Rattle.std.specs.Prelude.{ℕ, zero, suc, ◌+◌, ◌/◌, ◌%◌, ◌^◌, max, Bool, true, false, cond, ◌&&◌, ◌||◌, List, [], ◌∷◌, ◌++◌, leb, length, drop, replicate}

module _ {A : Type 0} where
  -- those that pass a test, in order
  unfoldable pub keep : (A → Bool) → List A → List A
  keep f [] = []
  keep f (x ∷ xs) = cond (f x) (x ∷ keep f xs) (keep f xs)

  -- some element passes a test
  unfoldable pub any : (A → Bool) → List A → Bool
  any f [] = false
  any f (x ∷ xs) = f x || any f xs

  -- every element passes a test
  unfoldable pub every : (A → Bool) → List A → Bool
  every f [] = true
  every f (x ∷ xs) = f x && every f xs

  -- the number of the first element that passes a test; the list's length where none does
  unfoldable pub position : (A → Bool) → List A → ℕ
  position f [] = zero
  position f (x ∷ xs) = cond (f x) zero (suc (position f xs))

  -- the first element that passes a test is changed
  unfoldable pub change_first : (A → Bool) → (A → A) → List A → List A
  change_first f g [] = []
  change_first f g (x ∷ xs) = cond (f x) (g x ∷ xs) (x ∷ change_first f g xs)

  abbrev pub is_empty : List A → Bool
  is_empty [] = true
  is_empty (x ∷ xs) = false

  -- the first, or the last, element, or d where there is none
  abbrev pub first_or : A → List A → A
  first_or d [] = d
  first_or d (x ∷ xs) = x

  abbrev pub last_or : A → List A → A
  last_or d [] = d
  last_or d (x ∷ xs) = last_or x xs

  -- a stable sort, by a number for each element: elements of equal numbers keep their order
  unfoldable pub insert : (A → ℕ) → A → List A → List A
  insert f x [] = x ∷ []
  insert f x (y ∷ ys) = cond (leb (f x) (f y)) (x ∷ y ∷ ys) (y ∷ insert f x ys)

  unfoldable pub sort_by : (A → ℕ) → List A → List A
  sort_by f [] = []
  sort_by f (x ∷ xs) = insert f x (sort_by f xs)

  -- what holds of every element, of some element: the facts beside the tests `every` and `any`
  abbrev pub All : (A → Type 0) → List A → Type 0
  All P [] = Unit {0}
  All P (x ∷ xs) = P x × All P xs

  pub data Some (P : A → Type 0) : List A → Type 0 where
    here : {x : A} {xs : List A} → P x → Some P (x ∷ xs)
    later : {x : A} {xs : List A} → Some P xs → Some P (x ∷ xs)

-- each number below n passes a test
unfoldable pub below : ℕ → (ℕ → Bool) → Bool
below zero f = true
below (suc n) f = below n f && f n

unfoldable pub sum : List ℕ → ℕ
sum [] = zero
sum (n ∷ ns) = n + sum ns

abbrev pub largest : List ℕ → ℕ
largest [] = zero
largest (n ∷ ns) = max n (largest ns)

-- bit k of a number
abbrev pub bit : ℕ → ℕ → ℕ
bit k n = n / 2 ^ k % 2

-- a flag as a bit
abbrev pub flag : Bool → ℕ
flag true = 1
flag false = 0

-- A lent output after a call that had xs to write: xs, and then what stood there.
abbrev pub written : List ℕ → List ℕ → List ℕ
written xs l = xs ++ drop (length xs) l

-- A work area after any call: zeros.
abbrev pub cleared : List ℕ → List ℕ
cleared l = replicate (length l) 0
