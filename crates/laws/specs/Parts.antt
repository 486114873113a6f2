-- A part of a work area: n places from a on.
use Rattle.std.specs.Prelude.{ℕ, List, take, drop}

abbrev pub part : {A : Type 0} → ℕ → ℕ → List A → List A
part a n w = take n (drop a w)
