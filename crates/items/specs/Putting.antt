-- Outputs that are written from some place on, or only counted.
use Rattle.std.specs.Prelude.{ℕ, Bool, cond, List, ◌++◌, ◌≡◌, take, drop}
use Rattle.rules.specs.Lists.{written}

-- xs stands in the list from a place on; all else is as it was
abbrev pub put_at : List ℕ → ℕ → List ℕ → List ℕ
put_at xs from l = take from l ++ written xs (drop from l)

-- l is l₀ with xs put to it from a place on, where w says so; else l is l₀
pub record Put (w : Bool) (xs : List ℕ) (from : ℕ) (l₀ l : List ℕ) : Type 0 where
  pub is : l ≡ cond w (put_at xs from l₀) l₀
