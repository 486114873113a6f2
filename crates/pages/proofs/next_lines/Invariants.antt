-- `pages::next_lines` puts lines from the front of a page. The loop's invariant: `Run`, the lines put so far. The measure is how many are ahead.
use lib.ListN.{length}
use Rattle.pages.specs.Spots.{sheet, ahead}
use Rattle.pages.proofs.Runs.{Run}
use Rattle.pages.proofs.next_lines.Given as goal

abbrev pub invariant-loop-out : goal.invariant-loop-out
invariant-loop-out l = Run (sheet l.counts l.heads l.keys l.starts l.marks) l.fn.spot (length l.initial.out) l.at l.here l.out

abbrev pub decreases-loop-out : goal.decreases-loop-out
decreases-loop-out l = length (ahead (sheet l.counts l.heads l.keys l.starts l.marks) l.here)
