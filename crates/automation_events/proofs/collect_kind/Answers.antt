use native.Mathlib.Omega.{arith}
use Rattle.automation_events.proofs.WritingLaws.{tick_reached, all_written, midway_start, midway_can, midway_more, midway_end}
use Rattle.automation_events.proofs.collect_kind.Goals as goal

pub loop-i-init : goal.loop-i-init
loop-i-init c = midway_start c.requires.0 c.args.choice c.args.n c.requires.1

pub after-tick-requires : goal.after-tick-requires
after-tick-requires c = tick_reached c.requires.0 c.args.choice c.args.n c.requires.1 c.loop-i.invariant

pub put_chosen-next-requires : goal.put_chosen-next-requires
put_chosen-next-requires c =
    rw c.after-tick.ensures (midway_can c.requires.0 c.args.choice c.args.n c.requires.1 c.loop-i.invariant (omega arith))

pub loop-i-preserved : goal.loop-i-preserved
loop-i-preserved c =
    midway_more
    c.requires.0
    c.args.choice
    c.args.n
    c.requires.1
    c.loop-i.invariant
    (omega arith)
    c.after-tick.ensures
    c.put_chosen-next.ensures

pub returns : goal.returns
returns c =
    let all = all_written c.requires.0 c.args.choice c.args.n c.requires.1 c.loop-i.invariant c.loop-i-test.false in
    midway_end c.requires.0 c.args.choice c.args.n c.requires.1 c.loop-i.invariant all
