-- `first_entry` tests the span against three entries without a dot; where it is shorter, none up to that entry fits.
use mathlib.Core.Path.{refl}
use native.Mathlib.Omega.{arith}
use Rattle.values.proofs.Skipped.{skips}
use Rattle.values.proofs.first_entry.Goals as goal

pub returns-then-ticks-values : goal.returns-then-ticks-values
returns-then-ticks-values c = skips 13 (omega arith) refl (omega arith) (omega arith)

pub returns-then-ticks-values-2 : goal.returns-then-ticks-values-2
returns-then-ticks-values-2 c = skips 9 (omega arith) refl (omega arith) (omega arith)

pub returns-then-ticks-values-3 : goal.returns-then-ticks-values-3
returns-then-ticks-values-3 c = skips 5 (omega arith) refl (omega arith) (omega arith)

pub returns : goal.returns
returns c = record { within = omega arith; none_fits = λ p e i h. absurd (omega arith) }
