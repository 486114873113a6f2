-- `bar_lines::put_meter` puts the meter where it is printed, else `-`.
use Rattle.bar_lines.specs.Lines.{meter_text}
use native.Mathlib.Omega.{arith}
use Rattle.line_text.proofs.Texts.{adds_both, adds_most}
use Rattle.bar_lines.proofs.put_meter.Goals as goal

pub returns-then-printed : goal.returns-then-printed
unfolding meter_text
returns-then-printed c =
    rw c.if-printed.true
    (adds_both
    (rw c.from.ensures at c.put_decimal-a.ensures)
    (adds_both c.put-b.ensures (rw c.from-then-printed.ensures at c.put_decimal.ensures)))

pub returns : goal.returns
unfolding meter_text
returns c = rw c.if-printed.false (adds_most (omega arith) c.put.ensures)
