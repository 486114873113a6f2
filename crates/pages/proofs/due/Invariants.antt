-- `pages::due` finds the next count at which a line is due. The loop's invariant: between the first count and k there is neither a bar nor an item.
use Rattle.pages.specs.Steps.{Passed}
use Rattle.pages.proofs.due.Given as goal

abbrev pub invariant-loop-k : goal.invariant-loop-k
invariant-loop-k l = Passed l.counts l.c l.end l.k
