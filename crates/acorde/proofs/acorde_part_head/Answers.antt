-- `acorde_part_head`: what `part_head` answers, told as a struct.
use mathlib.Core.Path.{ap, ◌∙◌}
use Rattle.acorde.specs.Entries.{part_head_entry}
use Rattle.acorde.proofs.acorde_part_head.Goals as goal

pub returns : goal.returns
returns c = c.part_head_values.ensures ∙ ap part_head_entry c.part_head.ensures
