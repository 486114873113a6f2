use native.Mathlib.Omega.{arith}
use Rattle.proofread_notes.proofs.Areas.{before_more}
use Rattle.proofread_notes.proofs.skip.Goals as goal

pub loop-i-init : goal.loop-i-init
loop-i-init c = c.requires.2

pub start_of-requires : goal.start_of-requires
start_of-requires c = (c.requires.0, omega arith)

pub returns-then-start-start_of : goal.returns-then-start-start_of
returns-then-start-start_of c =
    record
    { within = omega arith; before = c.loop-i.invariant; from = λ h. omega (arith, c.start_of.ensures.0, c.if-start-start_of.true) }

pub loop-i-preserved : goal.loop-i-preserved
loop-i-preserved c = before_more c.loop-i.invariant (omega (arith, c.start_of.ensures.0, c.if-start-start_of.false))

pub returns : goal.returns
returns c =
    let early = c.loop-i.invariant.earlier in
    record { within = omega arith; before = record { earlier = λ j h. early j (omega arith) }; from = λ h. absurd (omega arith) }
