-- `midi_bars` writes the bars. The loop's invariant: `n` bars are written to both outputs, and those ahead of the walker are to come.
use Rattle.rules.specs.Bars.{bars_in}
use Rattle.track_events.specs.Track.{events_of}
use Rattle.bar_walk.proofs.WalkLaws.{Walking}
use Rattle.bar_walk.proofs.Outputs.{Out}
use Rattle.bar_walk.proofs.midi_bars.Given as goal

abbrev pub invariant-loop-n : goal.invariant-loop-n
invariant-loop-n l = Walking l.deltas l.words l.p l.w
    × Out l.deltas l.words l.end l.max_bars l.n (bars_in l.max_bars l.p (events_of l.deltas l.words) l.end) l.initial.starts l.initial.marks l.starts l.marks l.w
