-- `item_lines::put_letter` puts a letter or `-`.
use Rattle.item_lines.specs.Items.{letter}
use borrow.Author.Tests.{eq-eqb, ne_eqb}
use Rattle.item_lines.proofs.put_letter.Goals as goal

pub returns-then-set-eq1 : goal.returns-then-set-eq1
unfolding letter
returns-then-set-eq1 c = rw (eq-eqb _ _ c.if-set-eq1.true) c.put.ensures

pub returns : goal.returns
unfolding letter
returns c = rw (ne_eqb _ _ c.if-set-eq1.false) c.put-2.ensures
