-- `transcribe_track`: the loop's invariant is that the staff is half written.
use Rattle.items.specs.Writing.{quarter}
use Rattle.staff.specs.Bars.{engraving}
use Rattle.staff.proofs.StaffWalk.{Onward}
use Rattle.staff.proofs.transcribe_track.Given as goal

abbrev pub invariant-loop-bars : goal.invariant-loop-bars
invariant-loop-bars l = Onward l.write l.deltas l.words l.end l.max_bars (quarter l.values) l.n l.work l.lens l.initial.counts l.initial.heads l.initial.keys l.initial.leftovers l.counts l.heads l.keys l.leftovers l.w
    (engraving l.bars l.items l.nexts)
