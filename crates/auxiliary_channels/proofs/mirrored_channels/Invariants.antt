-- The channels below the present one are answered.
use Rattle.track_events.specs.Track.{events_of}
use Rattle.auxiliary_channels.proofs.DroppedLaws.{Mirroring}
use Rattle.auxiliary_channels.proofs.mirrored_channels.Given as goal

abbrev pub invariant-loop-spare : goal.invariant-loop-spare
invariant-loop-spare l = Mirroring (events_of l.deltas l.words) l.bases l.mirrored l.spare
