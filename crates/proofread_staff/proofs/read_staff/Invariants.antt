-- `read_staff` reads voice after voice. The loop's invariant: the first v voices are right, and their chords have left their marks.
use Rattle.rules.specs.Bars.{bars_in}
use Rattle.rules.specs.Items.{read_staff}
use Rattle.track_events.specs.Track.{events_of}
use Rattle.proofread_staff.proofs.Staffing.{Voices}
use Rattle.proofread_staff.proofs.read_staff.Given as goal

abbrev pub invariant-loop-v : goal.invariant-loop-v
invariant-loop-v l = Voices l.g l.n l.m l.e l.p (bars_in l.max_bars l.p (events_of l.deltas l.words) l.end) (read_staff (record { counts = l.counts; heads = l.heads; keys = l.keys })) l.initial.work l.work l.v
