-- `bar_lines::put_bar` puts a bar's line: its head and its marks, by the fields that are unpacked.
use mathlib.Core.Path.{ap}
use native.Mathlib.Omega.{arith}
use Rattle.bar_marks.specs.declared.Mark.{Mark}
use Rattle.line_text.proofs.Texts.{adds_both, adds_eq, adds_most}
use Rattle.bar_lines.specs.Lines.{meter_of, bar_head, bar_marks}
use Rattle.bar_lines.proofs.put_bar.Goals as goal

pub put_bar_head-a-requires : goal.put_bar_head-a-requires
put_bar_head-a-requires c =
    let upper = ap (λ (m : Mark). m.upper) c.unpack-m.ensures in
    omega (arith, upper)

pub returns : goal.returns
returns c =
    let a = c.args in
    let is = c.unpack-m.ensures in
    adds_most (omega arith)
    (adds_both
    (adds_eq (ap (λ (m : Mark). bar_head a.p a.number a.start (meter_of m)) is) c.put_bar_head-a.ensures)
    (adds_eq (ap bar_marks is) c.put_bar_marks.ensures))
