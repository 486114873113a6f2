-- `automation`: the number, or the four counts; the outputs are those of the call.
use Rattle.laws.proofs.Told.{automation_told}
use Rattle.replay_calls.proofs.answers.automation.Goals as goal

pub returns-in-Err : goal.returns-in-Err
returns-in-Err c =
    automation_told c.automation.ensures (rw c.in-Err.is (rw c.from.ensures at c.say_refused.ensures))

pub returns-in-Ok : goal.returns-in-Ok
returns-in-Ok c =
    automation_told c.automation.ensures (rw c.in-Ok.is c.say_four.ensures)
