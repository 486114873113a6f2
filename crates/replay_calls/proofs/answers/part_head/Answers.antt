-- `part_head`: the number, or channel and program.
use Rattle.replay_answers.specs.Numbers.{saying}
use Rattle.replay_calls.specs.Outcomes.{part_head_numbers}
use Rattle.laws.proofs.Told.{told}
use Rattle.replay_calls.proofs.answers.part_head.Goals as goal

pub returns-in-Err : goal.returns-in-Err
returns-in-Err c =
    let before = c.args.said.now in
    told (saying part_head_numbers before) c.part_head.ensures (rw c.in-Err.is (rw c.from.ensures at c.say_refused.ensures))

pub returns-in-Ok : goal.returns-in-Ok
returns-in-Ok c =
    let values = rw (c.from-in-Ok.ensures, c.from-in-Ok-2.ensures) at c.say_two.ensures in
    let before = c.args.said.now in
    told (saying part_head_numbers before) c.part_head.ensures (rw c.in-Ok.is values)
