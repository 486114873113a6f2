-- `lower_of` answers the lower figure: the shift by a power below 32 loses no bit.
use native.Mathlib.Nat.{one-mul, mod-eq_of_lt}
use lib.Pow.{pow-lt}
use Rattle.changes.proofs.lower_of.Goals as goal

pub returns : goal.returns
returns c = rw (c.byte_b-power.ensures, one-mul) (mod-eq_of_lt (pow-lt {j = 32} c.requires))
