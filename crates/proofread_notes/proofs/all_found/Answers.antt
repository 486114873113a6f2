use mathlib.Core.Path.{sym, ◌∙◌}
use native.Mathlib.Omega.{arith}
use native.Mathlib.Nat.{sub-zero}
use Rattle.proofread_notes.proofs.Rests.{every_fails, every_goes, every_none}
use Rattle.proofread_notes.proofs.all_found.Goals as goal

pub loop-i-init : goal.loop-i-init
loop-i-init c = rw sub-zero

pub start_of-requires : goal.start_of-requires
start_of-requires c = (c.requires, omega arith)

pub returns-then-not-found : goal.returns-then-not-found
returns-then-not-found c =
    let l = c.loop-i in
    every_fails _ _ l.i _ l.invariant (omega arith)
    (cc)

pub loop-i-preserved : goal.loop-i-preserved
loop-i-preserved c =
    let l = c.loop-i in
    every_goes _ _ l.i _ l.invariant (omega arith)
    (cc)

pub returns : goal.returns
returns c = sym (every_none _ _ c.loop-i.i (omega arith)) ∙ c.loop-i.invariant
