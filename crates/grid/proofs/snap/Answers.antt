-- `snap`: a quotient times its divisor is at most the dividend.
use native.Mathlib.Nat.{div-mul-le_self, lt_of_le_of_lt}
use native.Mathlib.Omega.{arith}
use borrow.Author.Rules.{rules}
use Rattle.grid.proofs.snap.Goals as goal

pub overflow_mul-result : goal.overflow_mul-result
overflow_mul-result c = record { fits = lt_of_le_of_lt (div-mul-le_self _ _) (omega arith) }

pub returns : goal.returns
returns c = search rules
