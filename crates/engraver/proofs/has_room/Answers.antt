-- `has_room` is its four tests: each way out rewrites by those before it.
use borrow.Author.Tests.{lt-leb, le-leb}
use Rattle.engraver.proofs.has_room.Goals as goal

pub returns-then-counts-size : goal.returns-then-counts-size
returns-then-counts-size c = rw (lt-leb _ _ c.if-counts-size.true)

pub returns-then-heads-size : goal.returns-then-heads-size
returns-then-heads-size c = rw (le-leb _ _ c.if-counts-size.false, lt-leb _ _ c.if-heads-size.true)

pub returns-then-keys-size : goal.returns-then-keys-size
returns-then-keys-size c =
    rw (le-leb _ _ c.if-counts-size.false, le-leb _ _ c.if-heads-size.false, lt-leb _ _ c.if-keys-size.true)

pub returns : goal.returns
returns c =
    rw (le-leb _ _ c.if-counts-size.false, le-leb _ _ c.if-heads-size.false, le-leb _ _ c.if-keys-size.false)
