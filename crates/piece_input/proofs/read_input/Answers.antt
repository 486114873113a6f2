-- `piece_input::read_input` reads a text to its end.
use Rattle.piece_input.proofs.Chunks.{text_read}
use Rattle.piece_input.proofs.read_input.Goals as goal

pub returns : goal.returns
returns c =
    text_read _ _ c.read_all-reader.ensures c.finish.ensures
