-- `take_tempo` marks a tempo that is not of value 0, at the bar's start and after tick 0: each way out has its tests.
use borrow.Author.Tests.{eq-eqb, ne_eqb, lt-ltb, le-ltb}
use Rattle.bar_walk.proofs.Walker.take_tempo.Goals as goal

pub returns-then-value-eq0 : goal.returns-then-value-eq0
returns-then-value-eq0 c = rw (← c.tempo_value-value.ensures) (rw (eq-eqb _ _ c.if-value-eq0.true))

pub returns-then-self : goal.returns-then-self
returns-then-self c =
    rw (← c.tempo_value-value.ensures)
    (rw (ne_eqb _ _ c.if-value-eq0.false, ne_eqb _ _ c.if-self.true))

pub returns-then-self-gt0 : goal.returns-then-self-gt0
returns-then-self-gt0 c =
    rw (← c.tempo_value-value.ensures)
    (rw (ne_eqb _ _ c.if-value-eq0.false, eq-eqb _ _ c.if-self.false, lt-ltb _ _ c.if-self-gt0.true, c.tempo_of.ensures))

pub returns-else-self-gt0 : goal.returns-else-self-gt0
returns-else-self-gt0 c =
    rw (← c.tempo_value-value.ensures)
    (rw (ne_eqb _ _ c.if-value-eq0.false, eq-eqb _ _ c.if-self.false, le-ltb _ _ c.if-self-gt0.false))
