-- What the entries for values and spelling answer.
use Rattle.std.specs.Prelude.{ℕ, pos, ◌≡◌}
use Rattle.rules.specs.Refusals.{Result, refused, given}
use Rattle.rules.specs.Spelling.{Step, C, D, E, F, G, A, B, Spelling}
use Rattle.laws.specs.Exact.{Is256}
use Rattle.acorde.specs.declared.value_entries.AcordeBeats.{AcordeBeats}
use Rattle.acorde.specs.declared.value_entries.AcordeSpelling.{AcordeSpelling}

-- the double is the length in quarters, so many 256ths, exactly; 0 beside a refusal
abbrev pub BeatsEntered : Result ℕ → AcordeBeats → Type 0
BeatsEntered (refused m) a = (a.number ≡ m) × Is256 a.beats 0
BeatsEntered (given n) a = (a.number ≡ 0) × Is256 a.beats n

abbrev pub step_number : Step → ℕ
step_number C = 0
step_number D = 1
step_number E = 2
step_number F = 3
step_number G = 4
step_number A = 5
step_number B = 6

abbrev pub spelling_values : Spelling → AcordeSpelling
spelling_values s = record { number = 0; step = step_number s.step; octave = s.octave; alter = s.alter }

abbrev pub spelling_entry : Result Spelling → AcordeSpelling
spelling_entry (refused n) = record { number = n; step = 0; octave = pos 0; alter = pos 0 }
spelling_entry (given s) = spelling_values s
