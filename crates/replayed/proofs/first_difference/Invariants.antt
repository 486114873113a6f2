-- `replayed::first_difference` meets its contract. Invariant: the first difference from here on is that of the whole lists.
use mathlib.Core.Path.{◌≡◌}
use lib.ListN.{drop}
use Rattle.replayed.specs.Differences.{difference}
use Rattle.replayed.proofs.first_difference.Given as goal

abbrev pub invariant-loop-i : goal.invariant-loop-i
invariant-loop-i g l =
    let found = g.T.Number.values l.found in
    difference l.i (drop l.i l.wanted) (drop l.i found) ≡ difference 0 l.wanted found
