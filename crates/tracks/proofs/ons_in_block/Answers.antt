use mathlib.Core.Path.{sym, ◌∙◌, ap}
use native.Mathlib.Omega.{arith}
use lib.ListN.{length}
use Rattle.rules.specs.Lists.{flag}
use Rattle.rules.specs.Piece.{is_on}
use Rattle.laws.proofs.Loops.{keep_left, keep_done}
use Rattle.tracks.proofs.ons_in_block.Goals as goal
use Rattle.tracks.proofs.ons_in_block.Goals.{then-is_on, else-is_on}

pub loop-w-preserved : goal.loop-w-preserved
loop-w-preserved c =
    let here = c.loop-w in
    let more = keep_left is_on c.args.block.now here.w-index 0 (omega arith) in
    let on = c.is_on.ensures in
    elim c.if-is_on.branch [
      | then-is_on w ↦ let one = ap flag (sym on ∙ w.if-is_on.true) in omega (arith, here.invariant.0, here.invariant.1, more, one)
      | else-is_on w ↦ let one = ap flag (sym on ∙ w.if-is_on.false) in omega (arith, here.invariant.0, here.invariant.1, more, one)
    ]

pub returns : goal.returns
returns c =
    let none = ap length (keep_done is_on c.args.block.now c.loop-w.w-index (omega arith)) in
    omega arith
