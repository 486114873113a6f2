-- `fits` is its test: each way out rewrites by the first half.
use borrow.Author.Tests.{lt-ltb, le-ltb}
use Rattle.values.proofs.fits.Goals as goal

pub returns-then-length-gt0 : goal.returns-then-length-gt0
returns-then-length-gt0 c = rw (lt-ltb _ _ c.if-length-gt0.true)

pub returns-else-length-gt0 : goal.returns-else-length-gt0
returns-else-length-gt0 c = rw (le-ltb _ _ c.if-length-gt0.false)
