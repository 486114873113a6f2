-- `part_count`: the number, or the count.
use Rattle.replay_answers.specs.Numbers.{saying}
use Rattle.replay_calls.specs.Outcomes.{count_numbers}
use Rattle.laws.proofs.Told.{told}
use Rattle.replay_calls.proofs.answers.part_count.Goals as goal

pub returns-in-Err : goal.returns-in-Err
returns-in-Err c =
    let before = c.args.said.now in
    told (saying count_numbers before) c.part_count.ensures (rw c.in-Err.is (rw c.from.ensures at c.say_refused.ensures))

pub returns-in-Ok : goal.returns-in-Ok
returns-in-Ok c =
    let values = rw c.from-in-Ok.ensures at c.say_one.ensures in
    let before = c.args.said.now in
    told (saying count_numbers before) c.part_count.ensures (rw c.in-Ok.is values)
