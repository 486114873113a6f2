-- `covered`: by the last tick alone, or by a quiet end.
use mathlib.Core.Bool.{false≢true}
use native.Mathlib.Omega.{arith}
use Rattle.ends.proofs.Bounds.{ends_soon}
use Rattle.ends.proofs.covered.Goals as goal

pub total-last-requires : goal.total-last-requires
total-last-requires c = c.requires.few

pub returns-then-last-end : goal.returns-then-last-end
returns-then-last-end c t = omega (arith, ends_soon c.requires, c.total-last.ensures, c.if-last-end.true)

pub returns-then-last-end-2 : goal.returns-then-last-end-2
returns-then-last-end-2 c t = omega (arith, c.quiet_end.ensures t, c.total-last.ensures, c.if-last-end-2.true)

pub returns : goal.returns
returns c t = absurd (false≢true t)
