-- `acorde_head`: what `head` answers, told as a struct.
use mathlib.Core.Path.{ap, ◌∙◌}
use Rattle.acorde.specs.Entries.{head_entry}
use Rattle.acorde.proofs.acorde_head.Goals as goal

pub returns : goal.returns
returns c = c.head_values.ensures ∙ ap head_entry c.head.ensures.answered
