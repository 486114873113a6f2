use native.Mathlib.Omega.{arith}
use Rattle.pages.proofs.Runs.{run_none, run_more, run_shorter, run_ended, run_full}
use Rattle.pages.proofs.next_lines.Goals as goal

pub loop-out-init : goal.loop-out-init
loop-out-init c = run_none _ c.requires.0

pub overflow_sub-out : goal.overflow_sub-out
overflow_sub-out c = c.loop-out.invariant.within

pub next_line-requires : goal.next_line-requires
next_line-requires c = (c.loop-out.invariant.fits, omega arith)

pub returns-in_default : goal.returns-in_default
returns-in_default c = let none = c.in_default.ensures in run_ended c.loop-out.invariant none.0 none.1

pub loop-out-smaller : goal.loop-out-smaller
loop-out-smaller c = run_shorter c.loop-out.invariant c.in-Some.ensures

pub loop-out-preserved : goal.loop-out-preserved
loop-out-preserved c = run_more c.loop-out.invariant c.in-Some.ensures (omega arith) (omega arith)

pub shape_of-out : goal.shape_of-out
shape_of-out c = c.loop-out.invariant.room

pub returns : goal.returns
returns c = run_full c.loop-out.invariant (omega arith) (omega arith)
