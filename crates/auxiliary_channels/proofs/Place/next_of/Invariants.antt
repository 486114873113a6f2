-- From the present place on, the channel's automation is what it is from the first place on.
use Rattle.auxiliary_channels.proofs.MirrorLaws.{Seeking}
use Rattle.auxiliary_channels.proofs.Place.next_of.Given as goal

abbrev pub invariant-loop-at : goal.invariant-loop-at
invariant-loop-at l = Seeking l.deltas l.words l.channel l.fn.self (record { at = l.at; tick = l.tick })
