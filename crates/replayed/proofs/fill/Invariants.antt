-- `replayed::fill` fills an array. Invariant: other numbers up to i, and behind them what was there.
use mathlib.Core.List.{◌++◌}
use mathlib.Core.Path.{◌≡◌}
use lib.ListN.{length, drop}
use Rattle.replayed.specs.Differences.{others}
use Rattle.replayed.proofs.fill.Given as goal

abbrev pub invariant-loop-i : goal.invariant-loop-i
invariant-loop-i g l =
    let n = g.T.Number in
    (length l.l ≡ length l.initial.l) × (n.values l.l ≡ others 0 l.i ++ drop l.i (n.values l.initial.l))
