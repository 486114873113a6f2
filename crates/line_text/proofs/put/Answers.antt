-- `line_text::put` puts one byte.
use native.Mathlib.Omega.{arith}
use Rattle.line_text.proofs.Texts.{adds_one}
use Rattle.line_text.proofs.put.Goals as goal

pub returns : goal.returns
returns c = adds_one _ _ _ (omega arith)
