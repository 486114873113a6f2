-- `pop` takes the oldest start of a queue: its head leads to it, and its link becomes the head.
use native.Mathlib.Omega.{arith}
use Rattle.pairing.proofs.Chains.{queued_leads, popped}
use Rattle.pairing.proofs.pop.Goals as goal

pub overflow_add-heads : goal.overflow_add-heads
overflow_add-heads c = omega (arith, queued_leads c.requires)

pub offset_bounds-work-n : goal.offset_bounds-work-n
offset_bounds-work-n c = omega (arith, queued_leads c.requires)

pub bounds-work-n : goal.bounds-work-n
bounds-work-n c = omega (arith, queued_leads c.requires)

pub overflow_cast-heads : goal.overflow_cast-heads
overflow_cast-heads c = omega (arith, queued_leads c.requires)

pub overflow_add-result : goal.overflow_add-result
overflow_add-result c = omega (arith, queued_leads c.requires)

pub offset_bounds-work-n-2 : goal.offset_bounds-work-n-2
offset_bounds-work-n-2 c = omega (arith, queued_leads c.requires)

pub bounds-work-n-2 : goal.bounds-work-n-2
bounds-work-n-2 c = omega (arith, queued_leads c.requires)

pub overflow_add-result-2 : goal.overflow_add-result-2
overflow_add-result-2 c = omega (arith, queued_leads c.requires)

pub offset_bounds-work-n-3 : goal.offset_bounds-work-n-3
offset_bounds-work-n-3 c = omega (arith, queued_leads c.requires)

pub bounds-work-n-3 : goal.bounds-work-n-3
bounds-work-n-3 c = omega (arith, queued_leads c.requires)

pub returns : goal.returns
returns c t m ps q =
    let p = c.requires in
    popped q p.channel p.key p.full
