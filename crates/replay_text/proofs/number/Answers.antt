-- `replay_text::number` meets its contract: 0 after a fault, else what the scanner stopped with.
use mathlib.Core.Path.{sym, ◌∙◌}
use Rattle.replay_text.specs.Numbers.{number_at}
use Rattle.replay_text.proofs.number.Goals as goal

pub returns-then-is_some : goal.returns-then-is_some
unfolding number_at
returns-then-is_some c = rw (sym c.is_some.ensures ∙ c.if-is_some.true)

pub returns : goal.returns
unfolding number_at
returns c = rw (sym c.is_some.ensures ∙ c.if-is_some.false, c.settle.ensures, c.scan-stopped.ensures)
