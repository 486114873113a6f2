-- `forbidden_bits` writes the kinds' masks over a table of all bits. The invariant: those before k are written, the others are not.
use mathlib.Core.Path.{◌≡◌}
use lib.ListN.{length}
use Rattle.admission.specs.Bad.{Masked}
use Rattle.admission.proofs.forbidden_bits.Given as goal

abbrev pub invariant-loop-k : goal.invariant-loop-k
invariant-loop-k l = (length l.table ≡ 256) × Masked l.table l.k
