-- `say_one` puts 0 and its values in front: a run of stores, each within the eight.
use mathlib.Core.List.{[], ◌∷◌}
use native.Mathlib.Omega.{arith}
use lib.Seq.{lt-length-sets, sets-eq}
use Rattle.replay_answers.proofs.say_one.Goals as goal

pub bounds-said-1 : goal.bounds-said-1
bounds-said-1 c = lt-length-sets c.args.said.now 0 (0 ∷ []) (omega arith)

pub returns : goal.returns
returns c = sets-eq (0 ∷ c.args.a ∷ []) c.args.said.now 0 (omega arith)
