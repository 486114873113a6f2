-- `replaying::read_sizes` meets its contract: the list that was read, and its room.
use Rattle.replaying.proofs.Turns.{front_read}
use Rattle.replaying.proofs.read_sizes.Goals as goal

pub returns : goal.returns
returns c =
    rw c.requires at (front_read _ c.args.l.now _ _ c.list.auto.out c.list.ensures)
