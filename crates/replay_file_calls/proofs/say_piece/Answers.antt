-- `say_piece`: the number, or how many sizes and events.
use Rattle.replay_file_calls.proofs.say_piece.Goals as goal

pub returns-in-Err : goal.returns-in-Err
returns-in-Err c = rw c.in-Err.is (rw c.from.ensures at c.say_refused.ensures)

pub returns-in-Ok : goal.returns-in-Ok
returns-in-Ok c = rw c.in-Ok.is c.say_two.ensures
