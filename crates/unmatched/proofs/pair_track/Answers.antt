use native.Mathlib.Omega.{arith}
use Rattle.unmatched.proofs.Running.{running_start, running_turn, running_more, running_end}
use Rattle.unmatched.proofs.pair_track.Goals as goal

pub loop-i-init : goal.loop-i-init
loop-i-init c = running_start _ _ c.requires

pub overflow_add-tick : goal.overflow_add-tick
overflow_add-tick c =
    let p = running_turn c.requires c.loop-i.invariant (omega arith) in
    omega (arith, p.soon, c.from.ensures)

pub take_event-s-requires : goal.take_event-s-requires
take_event-s-requires c =
    rw c.from.ensures (running_turn c.requires c.loop-i.invariant (omega arith))

pub loop-i-preserved : goal.loop-i-preserved
loop-i-preserved c =
    let p = c.loop-i.invariant in
    running_more c.requires p c.loop-i-test.true (rw c.from.ensures at (c.take_event-s.ensures p.x p.pairs))

pub returns : goal.returns
returns c =
    running_end c.requires c.loop-i.invariant (omega arith)
