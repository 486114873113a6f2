-- What the answers mean: a number, or the values that document 01 asks for.
use Rattle.std.specs.Prelude.{ℕ}
use Rattle.std.specs.Prelude as std
use Rattle.rules.specs.Refusals.{Result, as_it_is}
use Rattle.basics.specs.declared.Refusal.{Refusal}
use Rattle.basics.specs.Refusals.{told_by}

abbrev pub bars_answer : std.Result ℕ Refusal → Result ℕ
bars_answer r = told_by as_it_is r
