-- `count_bars` counts the bars. The loop's invariant: `before` bars are past, and with those ahead of the walker they are all.
use Prim.Native.Nat.{◌+◌, ◌-◌}
use mathlib.Core.Path.{◌≡◌}
use lib.ListN.{length}
use Rattle.rules.specs.Bars.{bars_in}
use Rattle.track_events.specs.Track.{events_of}
use Rattle.bar_walk.proofs.WalkLaws.{Walking}
use Rattle.bar_walk.proofs.WalkLaws.{bars_ahead}
use Rattle.bar_walk.proofs.count_bars.Given as goal

abbrev pub invariant-loop-before : goal.invariant-loop-before
invariant-loop-before l = Walking l.deltas l.words l.p l.walker
    × (l.before + length (bars_ahead l.deltas l.words l.end (l.max_bars - l.before) l.walker) ≡ length (bars_in l.max_bars l.p (events_of l.deltas l.words) l.end))
