-- The first difference of two lists, and what arrays are full of before they are lent.
use Rattle.std.specs.Prelude.{ℕ, zero, suc, ◌+◌, ◌%◌, cond, List, [], ◌∷◌, Option, Some, None, eqb, map, ◌≡◌, refl}
use Rattle.std.proofs.Common.{ap}

-- the index of the first difference, counted from k: in a number, or since one list has ended
unfoldable pub difference : ℕ → List ℕ → List ℕ → Option ℕ
difference k [] [] = None
difference k [] (y ∷ ys) = Some k
difference k (x ∷ xs) [] = Some k
difference k (x ∷ xs) (y ∷ ys) = cond (eqb x y) (difference (k + 1) xs ys) (Some k)

-- 1 where there is one
abbrev pub bit : Option ℕ → ℕ
bit (Some i) = 1
bit None = 0

-- what stands at an index before a call: never 0, and another number at each index up to 65,535
abbrev pub other : ℕ → ℕ
other k = 4000000000 + k % 65536

-- n such numbers, from the index k on
unfoldable pub others : ℕ → ℕ → List ℕ
others k zero = []
others k (suc n) = other k ∷ others (k + 1) n

-- a list of numbers is the list of their values
pub same_numbers : (l : List ℕ) → l ≡ map (λ (n : ℕ). n) l
same_numbers [] = refl
same_numbers (x ∷ l) = ap (λ (t : List ℕ). x ∷ t) (same_numbers l)
