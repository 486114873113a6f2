-- `say_refused` puts the number in front.
use mathlib.Core.List.{[], ◌∷◌}
use native.Mathlib.Omega.{arith}
use lib.Seq.{sets-eq}
use Rattle.replay_answers.proofs.say_refused.Goals as goal

pub returns : goal.returns
returns c =
    let args = c.args in
    rw c.from.ensures (sets-eq (args.number ∷ []) args.said.now 0 (omega arith))
