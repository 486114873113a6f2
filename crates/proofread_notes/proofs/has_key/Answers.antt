-- `has_key` reads a bit of the low or of the high word.
use native.Mathlib.Omega.{arith}
use Rattle.proofread_notes.proofs.KeyWords.{has_low, has_high}
use Rattle.proofread_notes.proofs.has_key.Goals as goal

pub returns-then-key-lt64 : goal.returns-then-key-lt64
returns-then-key-lt64 c = has_low c.args.key c.args.low c.args.high (omega arith) (omega arith)

pub returns-else-key-lt64 : goal.returns-else-key-lt64
returns-else-key-lt64 c = has_high c.args.key c.args.low c.args.high (omega arith) (omega arith)
