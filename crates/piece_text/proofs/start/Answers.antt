-- `piece_text::start` has read nothing.
use Rattle.piece_text.proofs.Reading.{none_held}
use mathlib.Core.Path.{refl}
use Rattle.piece_text.proofs.start.Goals as goal

pub returns : goal.returns
returns c = λ ss ds ws. record { at = refl; numbers = record { sizes = none_held ss; deltas = none_held ds; words = none_held ws } }
