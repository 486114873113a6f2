-- `item_lines::put_item_end` puts ` u` where it is due, and the line's end.
use Rattle.item_lines.specs.Items.{item_end}
use borrow.Author.Tests.{eq-eqb, ne_eqb}
use native.Mathlib.Omega.{arith}
use Rattle.line_text.proofs.Texts.{adds_most}
use Rattle.item_lines.proofs.put_item_end.Goals as goal

pub returns-then-head-eq1 : goal.returns-then-head-eq1
unfolding item_end
returns-then-head-eq1 c = rw (eq-eqb _ _ c.if-head-eq1.true) c.put_text.ensures

pub returns : goal.returns
unfolding item_end
returns c = rw (ne_eqb _ _ c.if-head-eq1.false) (adds_most (omega arith) c.put.ensures)
