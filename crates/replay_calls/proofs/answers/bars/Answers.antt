-- `bars`: the number, or the count; the outputs are those of the call.
use Rattle.laws.proofs.Told.{bars_told}
use Rattle.replay_calls.proofs.answers.bars.Goals as goal

pub returns-in-Err : goal.returns-in-Err
returns-in-Err c =
    bars_told c.bars.ensures (rw c.in-Err.is (rw c.from.ensures at c.say_refused.ensures))

pub returns-in-Ok : goal.returns-in-Ok
returns-in-Ok c =
    let values = rw c.from-in-Ok.ensures at c.say_one.ensures in
    bars_told c.bars.ensures (rw c.in-Ok.is values)
