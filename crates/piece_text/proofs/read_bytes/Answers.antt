use Rattle.piece_text.specs.Text.{read_on}
use lib.Seq.{take_all}
use native.Mathlib.Omega.{arith}
use Rattle.piece_text.proofs.Reading.{read_one}
use Rattle.piece_text.proofs.read_bytes.Goals as goal

pub loop-b-init : goal.loop-b-init
unfolding read_on
loop-b-init c = (omega arith, omega arith, omega arith, λ a h. h)

pub loop-b-preserved : goal.loop-b-preserved
loop-b-preserved c =
    let l = c.loop-b in (
      omega arith,
      omega arith,
      omega arith,
      λ a h. rw (read_one a c.args.bytes.now l.b-index (omega arith)) (c.step-state.ensures _ (l.invariant.3 a h)),
    )

pub returns : goal.returns
returns c =
    λ a h. rw (take_all c.loop-b.b-index c.args.bytes.now (omega arith))
    at (c.loop-b.invariant.3 a h)
