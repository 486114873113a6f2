-- `put_chord` stores a chord's five words; the last one is its mark.
use mathlib.Core.Bool.{Bool, true, false}
use mathlib.Core.Path.{◌≡◌, refl}
use mir.Val.{bool_byte}
use native.Mathlib.Omega.{arith}
use lib.Dec.{eqb}
use Rattle.chords.proofs.Stores.{five_stored}
use Rattle.chords.proofs.put_chord.Goals as goal

-- the mark that is put is that of the chord
marked : (b : Bool) → eqb (bool_byte b) 1 ≡ b
marked true = refl
marked false = refl

pub returns : goal.returns
returns c = five_stored _ _ _ _ _ _ _ c.from-mark.result _ (omega arith) (omega arith) (rw c.from-mark.ensures (marked c.args.c.unpitched))
