-- `acorde_proof_read`: what `proof_read` answers, told as a struct.
use Rattle.laws.proofs.Told.{read_told}
use Rattle.acorde.proofs.acorde_proof_read.Goals as goal

pub returns : goal.returns
returns c = read_told c.proof_read.ensures c.reading_values.ensures
