-- `not_plain`: a word that has no bit but a plain word's is well formed.
use native.Mathlib.Omega.{arith}
use Rattle.admission.proofs.Masks.{plain_formed}
use Rattle.admission.proofs.not_plain.Goals as goal

pub returns : goal.returns
returns c z = plain_formed c.args.word (omega arith) z
