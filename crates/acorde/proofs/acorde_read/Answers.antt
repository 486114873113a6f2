-- `acorde_read`: what `read` answers, told as a struct.
use Rattle.laws.proofs.Told.{piece_told}
use Rattle.acorde.proofs.acorde_read.Goals as goal

pub returns : goal.returns
returns c = piece_told c.read.ensures c.piece_values.ensures
