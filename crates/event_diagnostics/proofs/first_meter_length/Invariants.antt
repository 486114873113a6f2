-- `first_meter_length` finds the first meter. The loop's invariant: it is that of the words left.
use mathlib.Core.Path.{◌≡◌}
use lib.ListN.{drop}
use Rattle.event_diagnostics.specs.Groups.{meter_in}
use Rattle.event_diagnostics.proofs.first_meter_length.Given as goal

abbrev pub invariant-loop-w : goal.invariant-loop-w
invariant-loop-w l = meter_in (drop l.w-index l.words) ≡ meter_in l.words
