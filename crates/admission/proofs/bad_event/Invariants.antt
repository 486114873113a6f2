-- `bad_event` answers 4 or 5. The invariant: the first bad event from event i on is the first of the block.
use mathlib.Core.Path.{◌≡◌}
use Rattle.admission.specs.Bad.{bad}
use Rattle.admission.proofs.bad_event.Given as goal

abbrev pub invariant-loop-i : goal.invariant-loop-i
invariant-loop-i l = bad l.deltas l.words l.from ≡ bad l.deltas l.words l.i
