-- `fifths_of` answers the clamped fifths: each way out is one case of the signed byte.
use Prim.Native.Nat.{ℕ, ◌<◌}
use mathlib.Core.Path.{◌≡◌}
use native.Mathlib.Omega.{arith}
use borrow.Author.Rules.{sfits_of}
use borrow.Author.Tests.{lt-ltb}
use lib.IntN.{pos, sub_ℕ}
use mir.Facts.{to_z-of_z}
use mir.Syntax.{w32}
use mir.Val.{SFits, to_z}
use Rattle.rules.specs.Piece.{byte_a}
use Rattle.changes.proofs.ChangeLaws.{fifths_up, fifths_seven, fifths_minus_seven, fifths_down}
use Rattle.changes.proofs.fifths_of.Goals as goal

plain : (a : ℕ) → a < 256 → to_z w32 a ≡ pos a
plain a h = rw (lt-ltb a 2147483648 (omega arith))

less : (a : ℕ) → a < 256 → SFits w32 (sub_ℕ a 256)
less a h = rw (lt-ltb a 256 h) (sfits_of (omega arith))

pub returns-then-a-lt8 : goal.returns-then-a-lt8
returns-then-a-lt8 c =
    let w = c.args.w in
    rw c.byte_a-a.ensures (rw (plain (byte_a w) (omega arith)) (fifths_up (byte_a w) (omega (arith, c.byte_a-a.ensures, c.if-a-lt8.true))))

pub returns-then-a-lt128 : goal.returns-then-a-lt128
returns-then-a-lt128 c =
    let e = c.byte_a-a.ensures in
    fifths_seven (byte_a c.args.w) (omega (arith, e, c.if-a-lt8.false)) (omega (arith, e, c.if-a-lt128.true))

pub returns-then-a-lt249 : goal.returns-then-a-lt249
returns-then-a-lt249 c =
    let e = c.byte_a-a.ensures in
    fifths_minus_seven (byte_a c.args.w) (omega (arith, e, c.if-a-lt128.false)) (omega (arith, e, c.if-a-lt249.true))

pub overflow_sub-result : goal.overflow_sub-result
overflow_sub-result c =
    let w = c.args.w in
    rw c.byte_a-a.ensures (rw (plain (byte_a w) (omega arith)) (less (byte_a w) (omega arith)))

pub returns : goal.returns
returns c =
    let w = c.args.w in
    let e = c.byte_a-a.ensures in
    rw (to_z-of_z (overflow_sub-result c)) (rw e (rw (plain (byte_a w) (omega arith)) (fifths_down (byte_a w) (omega (arith, e, c.if-a-lt249.false)) (omega arith))))
