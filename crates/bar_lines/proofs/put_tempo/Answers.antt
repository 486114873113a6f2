-- `bar_lines::put_tempo` puts the tempo, or `-`.
use Rattle.bar_lines.specs.Lines.{tempo_text}
use borrow.Author.Tests.{eq-eqb, ne_eqb}
use native.Mathlib.Omega.{arith}
use Rattle.line_text.proofs.Texts.{adds_most}
use Rattle.bar_lines.proofs.put_tempo.Goals as goal

pub returns-then-tempo-eq0 : goal.returns-then-tempo-eq0
unfolding tempo_text
returns-then-tempo-eq0 c = rw (eq-eqb _ _ c.if-tempo-eq0.true) (adds_most (omega arith) c.put.ensures)

pub returns : goal.returns
unfolding tempo_text
returns c = rw (ne_eqb _ _ c.if-tempo-eq0.false) (rw c.from.ensures at c.put_decimal.ensures)
