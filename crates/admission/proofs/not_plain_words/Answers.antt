use mathlib.Core.Path.{◌≡◌}
use native.Mathlib.Omega.{arith}
use borrow.Author.Tests.{eqb-true, not-false}
use Rattle.admission.proofs.Masks.{or_none, formed_none, formed_more}
use Rattle.admission.proofs.not_plain_words.Goals as goal

pub loop-i-init : goal.loop-i-init
loop-i-init c = λ z. formed_none _ _

pub offset_bounds-words-i : goal.offset_bounds-words-i
offset_bounds-words-i c = omega (arith, c.requires.1)

pub bounds-words-i : goal.bounds-words-i
bounds-words-i c = omega (arith, c.requires.1)

pub loop-i-preserved : goal.loop-i-preserved
loop-i-preserved c =
    λ z. let none = or_none _ _ z in formed_more (c.loop-i.invariant none.0) (c.not_plain-all.ensures none.1)

pub returns : goal.returns
returns c z =
    let here = c.loop-i in
    let done : here.i ≡ c.args.to = omega (arith, c.requires) in
    rw done at (here.invariant (eqb-true here.all 0 (not-false _ z)))
