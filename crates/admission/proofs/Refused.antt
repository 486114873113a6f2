-- A refusal has a number of its own, which is not 0.
use Prim.Native.Nat.{◌<◌}
use mathlib.Core.Path.{◌≡◌}
use native.Mathlib.Omega.{arith}
use Rattle.basics.specs.declared.Refusal.{Refusal}
use Rattle.basics.specs.declared.Refusal.TheVariants.{SizesDisagree, DivisionZero, TooManyEvents, LargeDelta, BadWord, NoNotes, NoSuchPart}
use Rattle.basics.specs.declared.Refusal.TheVariants.{NoRoom, UnevenPart, OutOfRange, TooManyBytes, BrokenFile, UnknownFormat}
use Rattle.basics.specs.Refusals.{number}

pub positive : (r : Refusal) → 0 < number r
positive SizesDisagree = omega arith
positive DivisionZero = omega arith
positive TooManyEvents = omega arith
positive LargeDelta = omega arith
positive BadWord = omega arith
positive NoNotes = omega arith
positive NoSuchPart = omega arith
positive NoRoom = omega arith
positive UnevenPart = omega arith
positive OutOfRange = omega arith
positive TooManyBytes = omega arith
positive BrokenFile = omega arith
positive UnknownFormat = omega arith

pub not_zero : (r : Refusal) → number r ≡ 0 → ⊥
not_zero r z = omega (arith, z, positive r)
