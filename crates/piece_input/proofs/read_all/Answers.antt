use mathlib.Core.Path.{refl}
use Rattle.piece_input.proofs.Chunks.{none_read}
use Rattle.piece_input.proofs.read_all.Goals as goal

pub loop-init : goal.loop-init
loop-init c = (refl, refl, refl, none_read _ _ _ _ c.start-reader.ensures)
