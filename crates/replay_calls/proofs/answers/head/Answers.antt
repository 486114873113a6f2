-- `head`: the number, or the head, as numbers.
use Rattle.replay_answers.specs.Numbers.{saying}
use Rattle.replay_calls.specs.Outcomes.{head_numbers}
use Rattle.laws.proofs.Told.{told}
use Rattle.replay_calls.proofs.answers.head.Goals as goal

pub returns-in-Err : goal.returns-in-Err
returns-in-Err c =
    let before = c.args.said.now in
    told (saying head_numbers before) c.head.ensures.answered (rw c.in-Err.is (rw c.from.ensures at c.say_refused.ensures))

pub returns-in-Ok : goal.returns-in-Ok
returns-in-Ok c =
    let before = c.args.said.now in
    told (saying head_numbers before) c.head.ensures.answered (rw c.in-Ok.is c.say_head.ensures)
