-- `acorde_read_size`: what `read_size` answers, told as a struct.
use mathlib.Core.Path.{ap, ◌∙◌}
use Rattle.acorde.specs.Entries.{piece_entry}
use Rattle.acorde.proofs.acorde_read_size.Goals as goal

pub returns : goal.returns
returns c = c.piece_values.ensures ∙ ap piece_entry c.read_size.ensures
