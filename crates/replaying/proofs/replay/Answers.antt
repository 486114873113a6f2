-- `replaying::replay` meets its contract: all pieces, and what stands behind them.
use mathlib.Core.Path.{◌∙◌}
use Rattle.replaying.specs.Running.{replay_of}
use Rattle.replaying.proofs.replay.Goals as goal

pub returns : goal.returns
unfolding replay_of
returns c =
    c.finish.ensures ∙ rw c.each_piece.ensures
