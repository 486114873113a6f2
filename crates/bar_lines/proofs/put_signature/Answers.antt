-- `bar_lines::put_signature` puts the key, or `-`.
use Rattle.bar_lines.specs.Lines.{key_text}
use borrow.Author.Tests.{eq-eqb, ne_eqb}
use native.Mathlib.Omega.{arith}
use Rattle.line_text.proofs.Texts.{adds_both, adds_most}
use Rattle.bar_lines.proofs.put_signature.Goals as goal

pub returns-then-raised-eq0 : goal.returns-then-raised-eq0
unfolding key_text
returns-then-raised-eq0 c = rw (eq-eqb _ _ c.if-raised-eq0.true) (adds_most (omega arith) c.put.ensures)

pub returns-then-minor : goal.returns-then-minor
unfolding key_text
returns-then-minor c =
    rw (ne_eqb _ _ c.if-raised-eq0.false, c.if-minor.true) (adds_both c.put_fifths-a.ensures c.put-then-minor.ensures)

pub returns : goal.returns
unfolding key_text
returns c =
    rw (ne_eqb _ _ c.if-raised-eq0.false, c.if-minor.false) (adds_both c.put_fifths-a.ensures c.put-2.ensures)
