-- `mark` packs the walker's fields, and whether the meter is printed.
use mathlib.Core.Path.{◌∙◌}
use Rattle.bar_walk.proofs.Walker.mark.Goals as goal

pub returns : goal.returns
returns c = c.pack.ensures ∙ rw c.printed.ensures
