-- `piece_input::read_some` reads on by one chunk, or by none.
use Rattle.piece_input.proofs.Chunks.{chunk_more}
use Rattle.piece_input.proofs.read_some.Goals as goal

pub returns : goal.returns
returns c =
    chunk_more _ _ _ c.requires c.read_bytes.ensures
