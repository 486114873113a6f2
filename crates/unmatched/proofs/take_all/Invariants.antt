-- `take_all` puts the starts still pending. The invariant, `Reach`: those put, then those left by channel, key, arrival, are all.
use Prim.Native.Nat.{◌-◌}
use Rattle.unmatched.proofs.Taking.{Reach}
use Rattle.unmatched.proofs.take_all.Given as goal

abbrev pub invariant-loop : goal.invariant-loop
invariant-loop l =
    Reach l.initial.heads l.work l.n l.waiting l.track l.at l.initial.places l.initial.details l.heads (l.waiting - l.counter) l.from l.next l.places
    l.details
