-- A call's answer as numbers.
use Rattle.std.specs.Prelude.{ℕ, List, [], ◌∷◌}
use Rattle.rules.specs.Lists.{written}
use Rattle.rules.specs.Refusals.{Result, refused, given}

-- the refusal's number alone, or 0 and the values
abbrev pub numbers : {A : Type 0} → (A → List ℕ) → Result A → List ℕ
numbers values (refused n) = n ∷ []
numbers values (given v) = 0 ∷ values v

-- the numbers that stood there, once an answer is said
abbrev pub saying : {A : Type 0} → (A → List ℕ) → List ℕ → Result A → List ℕ
saying values before r = written (numbers values r) before
