-- What the calls answer, in the words of rules. OutOfRange is document 01's number 10: a key above 127.
use Rattle.std.specs.Prelude.{ℕ, Bool, [], ◌∷◌, ℤ}
use Rattle.std.specs.Prelude as std
use Rattle.basics.specs.declared.Refusal.{Refusal}
use Rattle.basics.specs.Refusals.{told_by}
use Rattle.rules.specs.Refusals.{Result, unless, bad_key}
use Rattle.rules.specs.Spelling as rules
use Rattle.rules.specs.Spelling.{Spelling, spelled_either}
use Rattle.pitch.specs.declared.Step as step
use Rattle.pitch.specs.declared.Pitch.{Pitch}
use Rattle.pitch.specs.declared.Name.{Name}

abbrev pub step_of : step.Step → rules.Step
step_of step.TheVariants.C = rules.C
step_of step.TheVariants.D = rules.D
step_of step.TheVariants.E = rules.E
step_of step.TheVariants.F = rules.F
step_of step.TheVariants.G = rules.G
step_of step.TheVariants.A = rules.A
step_of step.TheVariants.B = rules.B

abbrev pub name_of : Name → rules.Name
name_of n = record { step = step_of n.0; alter = n.1 }

abbrev pub spelling_of : Pitch → Spelling
spelling_of p = record { step = step_of p.step; octave = p.octave; alter = p.alter }

abbrev pub pitch_of : step.Step → ℤ → ℤ → Pitch
pitch_of s o a = record { step = s; octave = o; alter = a }

abbrev pub spelled_answer : std.Result Pitch Refusal → Result Spelling
spelled_answer = told_by spelling_of

abbrev pub either_call : ℕ → Bool → Result Spelling
either_call key prefer_flat = unless (bad_key key ∷ []) (spelled_either key prefer_flat)
