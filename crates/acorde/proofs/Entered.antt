-- A value's answer, as a struct of the entries for C.
use Prim.Native.Nat.{ℕ}
use mathlib.Core.Bool.{false}
use lib.IntN.{pos}
use mathlib.Core.Path.{refl}
use Rattle.rules.specs.Refusals.{Result, refused, given}
use Rattle.duration.specs.Calls.{Exactly}
use lib.Ieee.{Float, fin}
use Rattle.acorde.specs.Values.{BeatsEntered}

-- ---- a value's beats

pub beats_given : (r : Result ℕ) (x : Float) → Exactly r (given x) → BeatsEntered r (record { number = 0; beats = x })
beats_given (refused m) x e = absurd e
beats_given (given n) x e = (refl, e)

pub beats_refused : (r : Result ℕ) (k : ℕ) → Exactly r (refused k) → BeatsEntered r (record { number = k; beats = fin false 0 (pos 0) })
beats_refused (refused m) k e = (e, (refl, refl))
beats_refused (given n) k e = absurd e
