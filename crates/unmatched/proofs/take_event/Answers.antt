-- `take_event` goes one event on, whatever was paired before: each arm is one case of the pairing's step.
use native.Mathlib.Omega.{arith}
use Rattle.pairing.specs.declared.Paired.TheVariants.{Other, Started, Closed, Unmatched}
use Rattle.findings.proofs.Putting.{found_none}
use Rattle.unmatched.proofs.Turns.{one_waits, turned}
use Rattle.unmatched.proofs.take_event.Goals as goal

pub overflow_sub-seen : goal.overflow_sub-seen
overflow_sub-seen c =
    let pre = c.requires in
    one_waits pre.pairs (rw c.in-Closed.is at (c.pair_event-p.ensures pre.x pre.pairs.queues))

pub returns-in-Other : goal.returns-in-Other
returns-in-Other c x p =
    let pre = c.requires in
    turned p (record { tick = pre.soon; number = pre.small }) Other (rw c.in-Other.is at (c.pair_event-p.ensures x p.queues))
    (omega arith)
    (found_none _ _ _)

pub returns-in-Started : goal.returns-in-Started
returns-in-Started c x p =
    let pre = c.requires in
    turned p (record { tick = pre.soon; number = pre.small }) Started (rw c.in-Started.is at (c.pair_event-p.ensures x p.queues))
    (omega arith)
    (found_none _ _ _)

pub returns-in-Closed : goal.returns-in-Closed
returns-in-Closed c x p =
    let pre = c.requires in
    let q = rw c.in-Closed.is at (c.pair_event-p.ensures x p.queues) in
    turned p (record { tick = pre.soon; number = pre.small }) (Closed _) q (omega (arith, one_waits p q)) (found_none _ _ _)

pub returns-in-Unmatched : goal.returns-in-Unmatched
returns-in-Unmatched c x p =
    let pre = c.requires in
    turned p (record { tick = pre.soon; number = pre.small }) Unmatched (rw c.in-Unmatched.is at (c.pair_event-p.ensures x p.queues))
    (omega arith)
    (rw (c.unmatched_off-d.ensures, c.from-channel.ensures, c.byte_a.ensures) at c.put.ensures)
