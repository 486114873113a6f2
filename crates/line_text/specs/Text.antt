-- Numbers in decimal as bytes, and what it is to put a text behind the first bytes of a page.
use Rattle.std.specs.Prelude.{ℕ, zero, suc, ◌+◌, ◌/◌, ◌%◌, ◌≤◌, cond, List, [], ◌∷◌, ◌++◌, ◌≡◌, ltb, take}

-- a number in decimal, with at most this many digits
unfoldable pub decimal_in : ℕ → ℕ → List ℕ
decimal_in zero n = []
decimal_in (suc k) n = cond (ltb n 10) ((48 + n) ∷ []) (decimal_in k (n / 10) ++ ((48 + n % 10) ∷ []))

-- A number of 64 bits in decimal: 20 digits hold each.
unfoldable pub decimal : ℕ → List ℕ
decimal n = decimal_in 20 n

-- A text was put behind the first at bytes of a page, which then has r: at most so many more.
pub record Adds (most : ℕ) (xs : List ℕ) (at : ℕ) (before : List ℕ) (r : ℕ) (after : List ℕ) : Type 0 where
  pub text : take r after ≡ take at before ++ xs
  pub grown : r ≤ at + most
