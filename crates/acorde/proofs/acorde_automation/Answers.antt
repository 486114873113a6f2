-- `acorde_automation`: what `automation` answers, told as a struct.
use Rattle.laws.proofs.Told.{automation_told}
use Rattle.acorde.proofs.acorde_automation.Goals as goal

pub returns : goal.returns
returns c = automation_told c.automation.ensures c.automation_values.ensures
