-- `replay_text::differs` meets its contract: the first difference, where it counts.
use mathlib.Core.Path.{◌∙◌}
use Rattle.replay_text.proofs.differs.Goals as goal

pub returns : goal.returns
returns g c =
    c.counted.ensures ∙ rw c.first_difference.ensures
