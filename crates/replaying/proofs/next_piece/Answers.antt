-- `replaying::next_piece` meets its contract: a piece is read, and its calls made.
use Rattle.replaying.proofs.Turns.{piece_turn_lem}
use Rattle.replaying.proofs.next_piece.Goals as goal

pub calls_of-requires : goal.calls_of-requires
calls_of-requires c =
    let at_read_piece = c.read_piece-g in
    at_read_piece.ensures.is.fits

pub returns : goal.returns
returns c =
    let at_more_of2 = c.more_of-2 in
    let at_more_of = c.more_of in
    let at_read_piece = c.read_piece-g in
    piece_turn_lem _ _ _ _ _ _ _ _ _ _ c.requires at_read_piece.ensures.is at_more_of.ensures at_more_of2.ensures c.calls_of.ensures
