-- `engrave`: its answer as numbers; the outputs and the work area are those of the call.
use Rattle.laws.proofs.Told.{engrave_told}
use Rattle.replay_calls.proofs.answers.engrave.Goals as goal

pub returns : goal.returns
returns c =
    engrave_told c.engrave.ensures c.say_size.ensures
