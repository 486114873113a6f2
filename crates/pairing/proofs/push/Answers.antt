-- `push` puts a start behind its queue: as the head of an empty one, or as the link of the tail.
use native.Mathlib.Omega.{arith}
use Rattle.pairing.proofs.Chains.{pushable_leads, pushed_first, pushed_behind, queues_kept}
use Rattle.pairing.proofs.push.Goals as goal

pub overflow_sub-work : goal.overflow_sub-work
overflow_sub-work c = omega (arith, pushable_leads c.requires (omega arith))

pub overflow_add-work-else-heads-c-eq0 : goal.overflow_add-work-else-heads-c-eq0
overflow_add-work-else-heads-c-eq0 c = omega (arith, pushable_leads c.requires (omega arith))

pub offset_bounds-work-n : goal.offset_bounds-work-n
offset_bounds-work-n c = omega (arith, pushable_leads c.requires (omega arith))

pub bounds-work-n : goal.bounds-work-n
bounds-work-n c = omega (arith, pushable_leads c.requires (omega arith))

pub returns-then-heads-c-eq0 : goal.returns-then-heads-c-eq0
returns-then-heads-c-eq0 c ps s q e =
    let p = c.requires in
    let x = c.write_node.ensures in
    pushed_first (queues_kept x.same q) p.channel p.key p.room p.small e x.node x.front c.if-heads-c-eq0.true

pub returns-else-heads-c-eq0 : goal.returns-else-heads-c-eq0
returns-else-heads-c-eq0 c ps s q e =
    let p = c.requires in
    let x = c.write_node.ensures in
    pushed_behind (queues_kept x.same q) p.channel p.key p.room p.small e x.node x.front (omega arith)
