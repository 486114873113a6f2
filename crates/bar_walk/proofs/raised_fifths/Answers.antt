-- `raised_fifths`: fifths and 8 are 1 to 15, so no signed sum or cast loses a bit.
use mathlib.Core.Path.{◌≡◌}
use native.Mathlib.Omega.{arith}
use lib.IntN.{ℤ, pos, ◌+ℤ◌}
use mir.Facts.{to_z-of_z}
use mir.Syntax.{w32}
use mir.Val.{to_z, of_z}
use Rattle.rules.specs.Changes.{clamp_fifths}
use Rattle.rules.specs.Piece.{signed_fifths}
use Rattle.changes.proofs.ChangeLaws.{fifths_shifted, fifths_fit, shifted_fit}
use Rattle.bar_walk.proofs.raised_fifths.Goals as goal

-- fifths and 8, through their bits and back
kept : (z : ℤ) → to_z w32 (of_z w32 (to_z w32 (of_z w32 (clamp_fifths z)) +ℤ pos 8)) ≡ clamp_fifths z +ℤ pos 8
kept z = rw (to_z-of_z (fifths_fit z)) (to_z-of_z (shifted_fit z))

pub overflow_add-result : goal.overflow_add-result
overflow_add-result c =
    let z = signed_fifths c.args.word in
    rw (c.fifths_of.ensures, to_z-of_z (fifths_fit z)) (shifted_fit z)

pub overflow_cast-result : goal.overflow_cast-result
overflow_cast-result c =
    let z = signed_fifths c.args.word in
    let s = fifths_shifted z in
    rw (c.fifths_of.ensures, kept z) (s.sign, record { fits = omega arith })

pub returns : goal.returns
returns c = rw (c.fifths_of.ensures, kept (signed_fifths c.args.word))
