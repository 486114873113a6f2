-- `is_off_grid` is its definition, with the sixteenth as computed.
use borrow.Author.Tests.{lt-ltb, le-ltb}
use Rattle.rules.specs.Grid.{is_off_grid}
use Rattle.grid.proofs.is_off_grid.Goals as goal

pub returns-then-tolerance-offset : goal.returns-then-tolerance-offset
unfolding is_off_grid
returns-then-tolerance-offset c =
    let is = c.sixteenth-sixteenth.ensures in
    let above = rw is at c.if-tolerance-offset.true in
    rw (is, lt-ltb _ _ above)

pub returns-else-tolerance-offset : goal.returns-else-tolerance-offset
unfolding is_off_grid
returns-else-tolerance-offset c =
    let is = c.sixteenth-sixteenth.ensures in
    let below = rw is at c.if-tolerance-offset.false in
    rw (is, le-ltb _ _ below)
