-- `acorde_engrave`: what `engrave` answers, told as a struct.
use Rattle.laws.proofs.Told.{engrave_told}
use Rattle.acorde.proofs.acorde_engrave.Goals as goal

pub returns : goal.returns
returns c = engrave_told c.engrave.ensures c.staff_values.ensures
