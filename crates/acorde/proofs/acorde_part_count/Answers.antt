-- `acorde_part_count`: what `part_count` answers, told as a struct.
use mathlib.Core.Path.{ap, ◌∙◌}
use Rattle.acorde.specs.Entries.{count_entry}
use Rattle.acorde.proofs.acorde_part_count.Goals as goal

pub returns : goal.returns
returns c = c.count_values.ensures ∙ ap count_entry c.part_count.ensures
