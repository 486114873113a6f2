-- `acorde_staff_size`: what `staff_size` answers, told as a struct.
use Rattle.laws.proofs.Told.{size_told}
use Rattle.acorde.proofs.acorde_staff_size.Goals as goal

pub returns : goal.returns
returns c = size_told c.staff_size.ensures c.staff_values.ensures
