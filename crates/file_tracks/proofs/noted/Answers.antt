-- `file_tracks::noted` stays 0 while every word is in the table.
use mathlib.Core.Bool.{and-true, and-false}
use Rattle.file_tracks.proofs.noted.Goals as goal

pub returns-then-good : goal.returns-then-good
returns-then-good c = rw (c.if-good.true, and-true)

pub returns-else-good : goal.returns-else-good
returns-else-good c = rw (c.if-good.false, and-false)
