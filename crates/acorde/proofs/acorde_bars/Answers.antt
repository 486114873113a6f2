-- `acorde_bars`: what `bars` answers, told as a struct.
use Rattle.laws.proofs.Told.{bars_told}
use Rattle.acorde.proofs.acorde_bars.Goals as goal

pub returns : goal.returns
returns c = bars_told c.bars.ensures c.count_values.ensures
