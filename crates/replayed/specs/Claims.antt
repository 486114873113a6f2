-- What the definitions come to, stated for readers and proved in proofs/Laws.antt.
use Rattle.std.specs.Prelude.{ℕ, ◌+◌, ◌<◌, ◌^◌, Bool, true, false, cond, List, ◌∷◌, ◌++◌, ◌≡◌, None, length}
use Rattle.rules.specs.Lists.{All}
use Rattle.replayed.specs.Decimals.{digit, gap, ended, scanned, decimal}
use Rattle.replayed.specs.Differences.{difference}
use Rattle.replayed.specs.declared.Scanned.{Scanned}
use Rattle.replayed.specs.declared.Scanned.TheVariants.{Before, Number}

-- a text read in two chunks is read as in one
abbrev pub ChunksAgree : Type 0
ChunksAgree =
    (label : Bool) (a b : List ℕ) (s : Scanned) (k : ℕ)
    → scanned label (a ++ b) s k
    ≡ cond (ended (scanned label a s k).found) (scanned label a s k) (scanned label b (scanned label a s k).found (k + length a))

-- digits with a gap behind them are read as the number that they stand for, where that is below 2^64
abbrev pub DigitsRead : Type 0
DigitsRead =
    (label : Bool) (d g : ℕ) (ds rest : List ℕ)
    → All (λ (b : ℕ). digit b ≡ true) (d ∷ ds)
    → digit g ≡ false
    → gap label g ≡ true
    → decimal 0 (d ∷ ds) < 2 ^ 64
    → (scanned label ((d ∷ ds) ++ g ∷ rest) Before 0).found ≡ Number (decimal 0 (d ∷ ds))

-- no difference is found just where the lists are equal
abbrev pub NothingIsEqual : Type 0
NothingIsEqual = (xs ys : List ℕ) → difference 0 xs ys ≡ None → xs ≡ ys

abbrev pub EqualIsNothing : Type 0
EqualIsNothing = (xs : List ℕ) → difference 0 xs xs ≡ None
