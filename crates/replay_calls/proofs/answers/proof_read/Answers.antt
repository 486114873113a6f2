-- `proof_read`: the number, or 1 for yes and 0 for no; the work area is that of the call.
use Rattle.laws.proofs.Told.{read_told}
use Rattle.replay_calls.proofs.answers.proof_read.Goals as goal

pub returns-in-Err : goal.returns-in-Err
returns-in-Err c =
    read_told c.proof_read.ensures (rw c.in-Err.is (rw c.from.ensures at c.say_refused.ensures))

pub returns-in-Ok : goal.returns-in-Ok
returns-in-Ok c =
    read_told c.proof_read.ensures (rw c.in-Ok.is c.say_right.ensures)
