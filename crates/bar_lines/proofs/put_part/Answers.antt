-- `bar_lines::put_part` puts a part's line.
use Rattle.line_text.proofs.Texts.{adds_both, adds_most}
use native.Mathlib.Omega.{arith}
use Rattle.bar_lines.proofs.put_part.Goals as goal

pub returns : goal.returns
returns c =
    adds_most (omega arith)
    (adds_both
    (adds_both (adds_both c.put_text-a.ensures c.put_decimal-b.ensures)
    (adds_both c.put_text-c.ensures c.put_decimal-d.ensures))
    c.put.ensures)
