-- The two places stand abreast: what is left of the base's automation and of the spare's is as equal as the whole of both.
use Prim.Native.Nat.{◌-◌}
use lib.ListN.{length}
use Rattle.auxiliary_channels.proofs.MirrorLaws.{Abreast}
use Rattle.auxiliary_channels.proofs.mirrored_automation.Given as goal

abbrev pub invariant-loop-x : goal.invariant-loop-x
invariant-loop-x l = Abreast l.deltas l.words l.base l.spare l.x l.y

abbrev pub decreases-loop-x : goal.decreases-loop-x
decreases-loop-x l = length l.deltas - l.x.at
