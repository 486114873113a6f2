-- What the answers mean: a number, or the values that document 01 asks for.
use Rattle.std.specs.Prelude.{ℕ, List, map, ◌≡◌, length}
use Rattle.std.specs.Prelude as std
use Rattle.rules.specs.Refusals.{Result, as_it_is, answers, writes}
use Rattle.rules.specs.Diagnostics.{Diagnostic, place_of, detail_of}
use Rattle.rules.specs.Lists.{written}
use Rattle.basics.specs.declared.Refusal.{Refusal}
use Rattle.basics.specs.Refusals.{told_by}

abbrev pub diagnostics_answer : std.Result ℕ Refusal → Result ℕ
diagnostics_answer r = told_by as_it_is r

-- the diagnostics call before its work area is zeroed: its answer and its outputs
pub record DiagnosticsWritten (r : Result (List Diagnostic)) (places₀ details₀ : List ℕ) (answer : Result ℕ) (places₁ details₁ : List ℕ) : Type 0 where
  pub answered : answer ≡ answers length r
  pub places : places₁ ≡ written (writes (map place_of) r) places₀
  pub details : details₁ ≡ written (writes (map detail_of) r) details₀
