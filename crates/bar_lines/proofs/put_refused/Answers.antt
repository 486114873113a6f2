-- `bar_lines::put_refused` puts a refusal's line.
use native.Mathlib.Omega.{arith}
use Rattle.line_text.proofs.Texts.{adds_both, adds_most}
use Rattle.bar_lines.proofs.put_refused.Goals as goal

pub returns : goal.returns
returns c =
    adds_most (omega arith) (adds_both c.put_text-a.ensures (adds_both c.put_decimal-b.ensures c.put.ensures))
