-- What the answer means: its number, or yes or no.
use Rattle.std.specs.Prelude.{Bool}
use Rattle.std.specs.Prelude as std
use Rattle.rules.specs.Refusals.{Result, as_it_is}
use Rattle.basics.specs.declared.Refusal.{Refusal}
use Rattle.basics.specs.Refusals.{told_by}

abbrev pub read_answer : std.Result Bool Refusal → Result Bool
read_answer r = told_by as_it_is r
