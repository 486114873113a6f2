-- `is_clean` makes the tests of rests and of other items in turn.
use Rattle.proofread_items.proofs.Lengths.{low_some, high_some, none_is, high_only}
use Rattle.proofread_items.proofs.is_clean.Goals as goal

pub returns-then-i-ne0 : goal.returns-then-i-ne0
returns-then-i-ne0 c = rw (c.if-i.true, (low_some _ _ c.if-i-ne0.true).0)

pub returns-then-i-ne0-2 : goal.returns-then-i-ne0-2
returns-then-i-ne0-2 c = rw (c.if-i.true, (high_some _ _ c.if-i-ne0-2.true).0)

pub returns-then-i : goal.returns-then-i
returns-then-i c =
    rw (c.if-i.true, none_is _ _ c.if-i-ne0.false c.if-i-ne0-2.false) c.unmarked.ensures

pub returns-then-i-ne0-3 : goal.returns-then-i-ne0-3
returns-then-i-ne0-3 c = rw (c.if-i.false, (low_some _ _ c.if-i-ne0-3.true).1)

pub returns : goal.returns
returns c = rw c.if-i.false (high_only _ _ c.if-i-ne0-3.false)
