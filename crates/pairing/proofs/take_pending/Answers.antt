-- `take_pending` takes the first of the pending starts by channel, key, arrival: the oldest of the first queue that is not empty.
use native.Mathlib.Omega.{arith}
use Rattle.pairing.proofs.Firsts.{somewhere, taken}
use Rattle.pairing.proofs.take_pending.Goals as goal

pub first_waiting-q-requires : goal.first_waiting-q-requires
first_waiting-q-requires c = somewhere c.requires

pub pop-s-requires : goal.pop-s-requires
pop-s-requires c =
    let p = c.requires in
    let f = c.first_waiting-q.ensures in
    record {
      tails = p.tails;
      count = p.count;
      pending = p.pending;
      queues = p.queues;
      channel = omega (arith, f.below);
      key = omega arith;
      full = f.full;
    }

pub returns : goal.returns
returns c t m ps q a = taken q a c.first_waiting-q.ensures (c.pop-s.ensures t m ps q)
