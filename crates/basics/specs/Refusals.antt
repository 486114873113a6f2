-- A refusal's number, and what a `Result` of the code means in the words of rules.
use Rattle.std.specs.Prelude.{ℕ, Ok, Err}
use Rattle.std.specs.Prelude as std
use Rattle.rules.specs.Refusals.{Result, refused, given}
use Rattle.basics.specs.declared.Refusal.{Refusal}
use Rattle.basics.specs.declared.Refusal.TheVariants.{SizesDisagree, DivisionZero, TooManyEvents, LargeDelta, BadWord, NoNotes, NoSuchPart}
use Rattle.basics.specs.declared.Refusal.TheVariants.{NoRoom, UnevenPart, OutOfRange, TooManyBytes, BrokenFile, UnknownFormat}

abbrev pub number : Refusal → ℕ
number SizesDisagree = 1
number DivisionZero = 2
number TooManyEvents = 3
number LargeDelta = 4
number BadWord = 5
number NoNotes = 6
number NoSuchPart = 7
number NoRoom = 8
number UnevenPart = 9
number OutOfRange = 10
number TooManyBytes = 11
number BrokenFile = 12
number UnknownFormat = 13

-- the number by which a result refuses; 0 where it does not
abbrev pub number_of : {A : Type 0} → std.Result A Refusal → ℕ
number_of (Ok a) = 0
number_of (Err r) = number r

-- the answer that a result stands for, its value told by f
abbrev pub told_by : {A B : Type 0} → (A → B) → std.Result A Refusal → Result B
told_by f (Ok a) = given (f a)
told_by f (Err r) = refused (number r)
