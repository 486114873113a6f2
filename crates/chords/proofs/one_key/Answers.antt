-- `one_key` gives the bit of its key, in the low or in the high word.
use native.Mathlib.Omega.{arith}
use Rattle.chords.proofs.Stores.{high_key}
use Rattle.chords.proofs.one_key.Goals as goal

pub returns-else-key-lt64 : goal.returns-else-key-lt64
returns-else-key-lt64 c = high_key _ (omega arith) (omega arith)
