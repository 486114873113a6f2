-- `push_bar`: the loop's invariant is that the bar is half written.
use Rattle.items.specs.Writing.{quarter}
use Rattle.staff.specs.Bars.{engraving}
use Rattle.staff.proofs.BarWalk.{Midway}
use Rattle.staff.proofs.push_bar.Given as goal

abbrev pub invariant-loop-v : goal.invariant-loop-v
invariant-loop-v l = Midway l.write (quarter l.values) l.n l.work l.lens l.bar (engraving l.bars l.items l.initial.nexts) l.initial.counts l.initial.heads l.initial.keys l.initial.leftovers l.counts l.heads l.keys l.leftovers l.nexts l.at l.v
