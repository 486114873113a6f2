use native.Mathlib.Omega.{arith}
use Rattle.raw_notes.proofs.Gathering.{gathering_more}
use Rattle.raw_notes.proofs.gather.Goals as goal

pub loop-i-preserved : goal.loop-i-preserved
loop-i-preserved c =
    gathering_more (omega arith) (omega arith) c.loop-i.invariant (omega arith)
