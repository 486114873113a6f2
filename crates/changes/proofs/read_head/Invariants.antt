-- `read_head` answers the head. The loop's invariant: what is read, with the events that are left, gives the head of the track.
use Rattle.track_events.specs.Track.{events_of, left}
use Rattle.changes.proofs.HeadLaws.{Reads}
use Rattle.changes.proofs.read_head.Given as goal

abbrev pub invariant-loop-i : goal.invariant-loop-i
invariant-loop-i l = Reads (events_of l.deltas l.words) (left 0 l.i l.deltas l.words) l.read
