-- `replay_text::bounded` meets its contract: the next number, held to the limit.
use mathlib.Core.Path.{refl}
use Rattle.replay_text.proofs.Laws.{held_most}
use Rattle.replay_text.proofs.bounded.Goals as goal

pub returns : goal.returns
returns c = rw (c.held.ensures, c.number.ensures) record { is = refl; within = held_most _ _ _ }
