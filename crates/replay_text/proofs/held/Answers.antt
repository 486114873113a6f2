-- `replay_text::held` meets its contract: the number, or 0 and the fault.
use mathlib.Core.Path.{sym, ◌∙◌}
use Rattle.replay_text.proofs.Laws.{held_small, held_large}
use Rattle.replay_text.proofs.held.Goals as goal

pub returns-then-n-most : goal.returns-then-n-most
returns-then-n-most c = sym (held_small _ _ _ c.if-n-most.true)

pub returns : goal.returns
returns c = c.behind.ensures ∙ sym (held_large _ _ _ c.if-n-most.false)
