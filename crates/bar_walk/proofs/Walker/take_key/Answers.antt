-- `take_key` marks a key at the bar's start, and passes over any other.
use borrow.Author.Tests.{eq-eqb, ne_eqb}
use Rattle.bar_walk.proofs.Walker.take_key.Goals as goal

pub returns-then-self : goal.returns-then-self
returns-then-self c = rw (eq-eqb _ _ c.if-self.true, c.raised_fifths.ensures, c.byte_b.ensures)

pub returns-else-self : goal.returns-else-self
returns-else-self c = rw (ne_eqb _ _ c.if-self.false)
