-- Lists that a function gives place by place.
use Rattle.std.specs.Prelude.{ℕ, zero, suc, List, [], ◌∷◌, map}
use Rattle.laws.specs.Sort.{count}

-- what f gives at 0 to m - 1
abbrev pub up_to : {A : Type 0} → (ℕ → A) → ℕ → List A
up_to f m = map f (count 0 m)

-- what f gives at m - 1 down to 0
unfoldable pub down : {A : Type 0} → (ℕ → A) → ℕ → List A
down f zero = []
down f (suc m) = f m ∷ down f m
