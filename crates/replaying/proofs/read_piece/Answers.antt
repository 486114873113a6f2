-- `replaying::read_piece` meets its contract: number, zeros and four lists.
use Rattle.replaying.proofs.Turns.{gave_is}
use Rattle.replaying.proofs.read_piece.Goals as goal

pub returns : goal.returns
returns c =
    let at_events = c.events-d in
    let at_read_sizes = c.read_sizes-s in
    let at_bounded = c.bounded-zeros in
    let at_misnumbered = c.misnumbered-other in
    let at_number = c.number-number in record {
      is = gave_is _ _ _ _ _ _ _ _ _ _ _ _ _ _ at_number.ensures at_misnumbered.ensures.is at_bounded.ensures.is
          at_read_sizes.ensures at_events.ensures c.events-w.ensures c.read_bytes-b.ensures;
      few = at_misnumbered.ensures.few;
    }
