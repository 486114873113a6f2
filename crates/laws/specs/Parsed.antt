-- What a definition finds and what a program finds: both nothing, or both something that goes together.
use Rattle.std.proofs.Math.Option.{Option, none, some}

unfoldable pub Agrees : {A B : Type 0} → (A → B → Type 0) → Option A → Option B → Type 0
Agrees P none none = Unit {0}
Agrees P none (some b) = ⊥
Agrees P (some a) none = ⊥
Agrees P (some a) (some b) = P a b
