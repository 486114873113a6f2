-- `untie` takes the bit off where the item is not tied.
use Rattle.items.proofs.untie.Goals as goal

pub overflow_sub-heads : goal.overflow_sub-heads
overflow_sub-heads c = c.requires.1 c.if-tied.false

pub returns : goal.returns
returns c = rw c.if-tied.false
