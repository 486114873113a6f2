use native.Mathlib.Omega.{arith}
use Rattle.pairing.proofs.Taking.{taking_waits}
use Rattle.unmatched.proofs.Taking.{puts_start, taken_packs, puts_more, puts_end}
use Rattle.unmatched.proofs.take_all.Goals as goal

pub loop-init : goal.loop-init
loop-init c = record { few = omega arith; reach = λ t m x p. puts_start _ _ _ _ (omega arith) p }

pub take_pending-u-requires : goal.take_pending-u-requires
take_pending-u-requires c =
    let o = c.requires in
    taking_waits (c.loop.invariant.reach o.tails o.count o.x o.pairs).taking (omega arith)

pub put-next-requires : goal.put-next-requires
put-next-requires c =
    let o = c.requires in
    let inv = c.loop.invariant in
    let p = inv.reach o.tails o.count o.x o.pairs in
    rw c.unmatched_on.ensures (
      taken_packs p (c.take_pending-u.ensures o.tails _ _ p.taking.queues p.taking.later) o.numbered,
      omega (arith, inv.few, o.room),
    )

pub loop-preserved : goal.loop-preserved
loop-preserved c =
    let inv = c.loop.invariant in
    let put = c.put-next.ensures in
    record {
      few = omega (arith, inv.few, put.count);
      reach = λ t m x y.
          let p = inv.reach t m x y in
          puts_more p (c.take_pending-u.ensures t m _ p.taking.queues p.taking.later) (omega arith) (rw c.unmatched_on.ensures at put);
    }

pub returns : goal.returns
returns c t m x p = puts_end (c.loop.invariant.reach t m x p) (omega arith)
