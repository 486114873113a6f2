-- `acorde_diagnostics`: what `diagnostics` answers, told as a struct.
use Rattle.laws.proofs.Told.{diagnostics_told}
use Rattle.acorde.proofs.acorde_diagnostics.Goals as goal

pub returns : goal.returns
returns c = diagnostics_told c.diagnostics.ensures c.count_values.ensures
