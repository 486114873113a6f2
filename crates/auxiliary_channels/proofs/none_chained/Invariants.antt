-- No spare below the present one is chained.
use mathlib.Core.Bool.{true, not}
use mathlib.Core.Path.{◌≡◌}
use Rattle.rules.specs.Lists.{below}
use Rattle.auxiliary_channels.specs.Markers.{is_chained}
use Rattle.auxiliary_channels.proofs.none_chained.Given as goal

abbrev pub invariant-loop-spare : goal.invariant-loop-spare
invariant-loop-spare l = below l.spare (λ s. not (is_chained l.bases s)) ≡ true
