-- `bar_lines::put_fifths` puts the fifths with their sign.
use Rattle.bar_lines.specs.Lines.{fifths_text}
use borrow.Author.Tests.{lt-ltb, le-ltb}
use native.Mathlib.Omega.{arith}
use Rattle.line_text.proofs.Texts.{adds_both, adds_most}
use Rattle.bar_lines.proofs.put_fifths.Goals as goal

pub returns-then-raised-lt8 : goal.returns-then-raised-lt8
unfolding fifths_text
returns-then-raised-lt8 c =
    rw (lt-ltb _ _ c.if-raised-lt8.true) (adds_both c.put-a.ensures (rw c.from.ensures at c.put_decimal.ensures))

pub returns : goal.returns
unfolding fifths_text
returns c = rw (le-ltb _ _ c.if-raised-lt8.false) (adds_most (omega arith) (rw c.from-2.ensures at c.put_decimal-2.ensures))
