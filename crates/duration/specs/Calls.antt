-- What the calls answer. OutOfRange is document 01's number 10: a code or a number of dots out of range.
use Rattle.std.specs.Prelude.{ℕ, ◌/◌, ◌^◌, max, ◌≡◌, [], ◌∷◌, Float}
use Rattle.std.specs.Prelude as std
use Rattle.basics.specs.declared.Refusal.{Refusal}
use Rattle.basics.specs.Refusals.{told_by}
use Rattle.laws.specs.Exact.{Is256}
use Rattle.rules.specs.Refusals.{Result, refused, given, unless, bad_code, bad_dots}
use Rattle.rules.specs.Values.{ticks480}
use Rattle.duration.specs.declared.Duration.{Duration}
use Rattle.duration.specs.declared.Duration.TheVariants.{Longa, Breve, Whole, Half, Quarter, Eighth, Sixteenth}
use Rattle.duration.specs.declared.Duration.TheVariants.{ThirtySecond, SixtyFourth, HundredTwentyEighth}
use Rattle.duration.specs.declared.Fraction.{Fraction}

abbrev pub code_of : Duration → ℕ
code_of Longa = 0
code_of Breve = 1
code_of Whole = 2
code_of Half = 3
code_of Quarter = 4
code_of Eighth = 5
code_of Sixteenth = 6
code_of ThirtySecond = 7
code_of SixtyFourth = 8
code_of HundredTwentyEighth = 9

-- A code's part of a whole note: 4 / 2 ^ code, in lowest terms.
abbrev pub fraction_of : ℕ → Fraction
fraction_of code = record { num = max 1 (4 / 2 ^ code); den = max 1 (2 ^ code / 4) }

abbrev pub coded_answer : std.Result Duration Refusal → Result ℕ
coded_answer = told_by code_of

abbrev pub coded_call : ℕ → Result ℕ
coded_call code = unless (bad_code code ∷ []) code

abbrev pub ticks_answer : std.Result ℕ Refusal → Result ℕ
ticks_answer = told_by (λ n. n)

abbrev pub ticks_call : ℕ → ℕ → Result ℕ
ticks_call code dots = unless (bad_code code ∷ bad_dots dots ∷ []) (ticks480 code dots)

abbrev pub measured_answer : std.Result Float Refusal → Result Float
measured_answer = told_by (λ x. x)

-- The double is that many 256ths, exactly; a refusal has the same number.
abbrev pub Exactly : Result ℕ → Result Float → Type 0
Exactly (refused m) (refused k) = k ≡ m
Exactly (refused m) (given x) = ⊥
Exactly (given n) (refused k) = ⊥
Exactly (given n) (given x) = Is256 x n
