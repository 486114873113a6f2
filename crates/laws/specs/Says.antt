-- A test says a fact: it is true exactly when the fact holds.
use Rattle.std.specs.Prelude.{Bool, true, ◌↔◌, ◌≡◌}

abbrev pub Says : Bool → Type 0 → Type 0
Says b A = (b ≡ true) ↔ A
