-- `piece_text::read_text` reads a whole text from the start to the end.
use borrow.Author.Rules.{rules}
use Rattle.piece_text.proofs.read_text.Goals as goal

pub start-requires : goal.start-requires
start-requires c = search rules

pub read_bytes-reader-requires : goal.read_bytes-reader-requires
read_bytes-reader-requires c = search rules

pub finish-requires : goal.finish-requires
finish-requires c = search rules

pub shape_of-sizes : goal.shape_of-sizes
shape_of-sizes c = search rules

pub shape_of-deltas : goal.shape_of-deltas
shape_of-deltas c = search rules

pub shape_of-words : goal.shape_of-words
shape_of-words c = search rules

pub returns : goal.returns
returns c =
    c.finish.ensures _
    (c.read_bytes-reader.ensures
    _
    (c.start.ensures
    _ _ _))
