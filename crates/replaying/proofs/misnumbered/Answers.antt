-- `replaying::misnumbered` meets its contract: a fault, the number due, another.
use Prim.Native.Nat.{zero-le}
use mathlib.Core.Path.{refl, sym, ◌∙◌}
use borrow.Author.Tests.{eq-eqb, ne_eqb}
use native.Mathlib.Omega.{arith}
use Rattle.replaying.specs.Running.{other_than}
use Rattle.replaying.proofs.misnumbered.Goals as goal

pub returns-then-is_some : goal.returns-then-is_some
unfolding other_than
returns-then-is_some c =
    record { is = rw (sym c.is_some.ensures ∙ c.if-is_some.true) refl; few = zero-le }

pub returns-then-n-due : goal.returns-then-n-due
unfolding other_than
returns-then-n-due c =
    record { is = rw (sym c.is_some.ensures ∙ c.if-is_some.false, eq-eqb _ _ c.if-n-due.true) refl; few = zero-le }

pub returns : goal.returns
unfolding other_than
returns c =
    record { is = rw (sym c.is_some.ensures ∙ c.if-is_some.false, ne_eqb _ _ c.if-n-due.false) refl; few = omega arith }
