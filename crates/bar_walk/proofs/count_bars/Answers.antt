use mathlib.Core.Path.{ap}
use native.Mathlib.Omega.{arith}
use lib.ListN.{length}
use Rattle.bar_walk.proofs.WalkLaws.{walking_start, walking_sane, walking_ready, walking_on}
use Rattle.bar_walk.proofs.WalkLaws.{ahead_all, ahead_more, ahead_last, ahead_end}
use Rattle.bar_walk.proofs.count_bars.Goals as goal

pub first_bar-walker-requires : goal.first_bar-walker-requires
first_bar-walker-requires c = c.requires.track

pub loop-before-init : goal.loop-before-init
loop-before-init c =
    let s = c.first_bar-walker.ensures in
    let given = c.args in
    (walking_start s, omega (arith, ap length (ahead_all given.end given.max_bars given.p s)))

pub next_bar-walker-requires : goal.next_bar-walker-requires
next_bar-walker-requires c = walking_sane c.loop-before.invariant.0 c.requires.ticks

pub returns-then-end-walker : goal.returns-then-end-walker
returns-then-end-walker c =
    let at = c.loop-before in
    let last = rw c.next_bar-walker.ensures at c.if-end-walker.true in
    omega (arith, at.invariant.1, ap length (ahead_last at.invariant.0.bar _ c.loop-before-test.true last))

pub take_changes-walker-requires : goal.take_changes-walker-requires
take_changes-walker-requires c =
    let at = c.loop-before in
    let more = rw c.next_bar-walker.ensures at c.if-end-walker.false in
    rw c.next_bar-walker.ensures (walking_ready at.invariant.0 c.requires.track _ c.requires.end_fits more)

pub loop-before-preserved : goal.loop-before-preserved
loop-before-preserved c =
    let at = c.loop-before in
    let next = c.next_bar-walker.ensures in
    let more = rw next at c.if-end-walker.false in
    let s = rw next at c.take_changes-walker.ensures in
    let step = ahead_more at.invariant.0.bar _ c.loop-before-test.true s more in
    (walking_on at.invariant.0 s _ c.requires.end_fits more, omega (arith, at.invariant.1, ap length step))

pub returns : goal.returns
returns c =
    let at = c.loop-before in
    omega (arith, at.invariant.1, ap length (ahead_end c.args.deltas.now c.args.words.now at.walker c.args.end c.loop-before-test.false))
