-- `within` answers whether the three bytes are at most their limits: each way out rewrites the tests passed.
use borrow.Author.Tests.{le-leb, lt-leb}
use Rattle.track_events.proofs.within.Goals as goal

pub returns-then-a-x : goal.returns-then-a-x
returns-then-a-x c = rw (lt-leb _ _ c.if-a-x.true)

pub returns-then-b-x : goal.returns-then-b-x
returns-then-b-x c = rw (le-leb _ _ c.if-a-x.false, lt-leb _ _ c.if-b-x.true)

pub returns : goal.returns
returns c = rw (le-leb _ _ c.if-a-x.false, le-leb _ _ c.if-b-x.false)
