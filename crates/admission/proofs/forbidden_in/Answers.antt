-- `forbidden_in`: a word without the bits that the table has for its kind is well formed.
use native.Mathlib.Omega.{arith}
use Rattle.admission.proofs.Masks.{formed}
use Rattle.admission.proofs.forbidden_in.Goals as goal

pub returns : goal.returns
returns c z = let x = c.args in formed x.word (omega arith) x.table.now c.requires z
