-- `replaying::read_bytes` meets its contract: the list that was read, and its room.
use Rattle.replaying.proofs.Turns.{front_read}
use Rattle.replaying.proofs.read_bytes.Goals as goal

pub returns : goal.returns
returns c =
    rw c.requires at (front_read _ c.args.l.now _ _ c.list.auto.out c.list.ensures)
