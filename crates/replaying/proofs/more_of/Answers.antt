-- `replaying::more_of` meets its contract, below the limit and above.
use borrow.Author.Tests.{lt-ltb, le-ltb}
use Rattle.replaying.proofs.more_of.Goals as goal

pub returns-then-n-lt1000000000000 : goal.returns-then-n-lt1000000000000
returns-then-n-lt1000000000000 c =
    rw (lt-ltb _ _ c.if-n-lt1000000000000.true)

pub returns : goal.returns
returns c =
    rw (le-ltb _ _ c.if-n-lt1000000000000.false)
