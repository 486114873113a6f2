-- `staff_size`: its answer as numbers; the work area is that of the call.
use Rattle.laws.proofs.Told.{size_told}
use Rattle.replay_calls.proofs.answers.staff_size.Goals as goal

pub returns : goal.returns
returns c =
    size_told c.staff_size.ensures c.say_size.ensures
