-- `say_size`: the number, or bars and items.
use Rattle.replay_calls.proofs.answers.say_size.Goals as goal

pub returns-in-Err : goal.returns-in-Err
returns-in-Err c = rw c.in-Err.is (rw c.from.ensures at c.say_refused.ensures)

pub returns-in-Ok : goal.returns-in-Ok
returns-in-Ok c = rw c.in-Ok.is c.say_two.ensures
