-- `all_keys` joins both words of the keys.
use mathlib.Core.Path.{sym}
use native.Mathlib.Omega.{arith}
use lib.Bits.{or_block}
use Rattle.chords.proofs.all_keys.Goals as goal

pub returns : goal.returns
returns c =
    let a = c.args.a in
    let b = c.args.b in
    sym (or_block 64 a.high b.high a.low b.low (omega arith) (omega arith))
