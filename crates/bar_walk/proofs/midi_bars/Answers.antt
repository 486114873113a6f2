use mathlib.Core.Path.{◌≡◌}
use native.Mathlib.Omega.{arith}
use lib.ListN.{length-set}
use Rattle.bar_walk.proofs.WalkLaws.{walking_start, walking_sane, walking_ready, walking_on}
use Rattle.bar_walk.proofs.Outputs.{out_start, in_starts, in_marks, out_more, out_last, out_end}
use Rattle.bar_walk.proofs.midi_bars.Goals as goal

pub first_bar-w-requires : goal.first_bar-w-requires
first_bar-w-requires c = c.requires.0.track

pub loop-n-init : goal.loop-n-init
loop-n-init c =
    let s = c.first_bar-w.ensures in
    let given = c.args in
    (walking_start s, out_start given.end given.max_bars given.p _ _ s)

pub bounds-starts-n : goal.bounds-starts-n
bounds-starts-n c =
    let at = c.loop-n in
    in_starts at.invariant.0.bar at.invariant.1 c.loop-n-test.true c.requires.1

pub bounds-marks-n : goal.bounds-marks-n
bounds-marks-n c =
    let at = c.loop-n in
    in_marks at.invariant.0.bar at.invariant.1 c.loop-n-test.true c.requires.1

pub next_bar-w-requires : goal.next_bar-w-requires
next_bar-w-requires c =
    walking_sane c.loop-n.invariant.0 c.requires.0.ticks

pub shape_of-starts-then-end-w : goal.shape_of-starts-then-end-w
shape_of-starts-then-end-w c = simp length-set (omega (arith, c.loop-n.invariant.1.first.kept))

pub shape_of-marks-then-end-w : goal.shape_of-marks-then-end-w
shape_of-marks-then-end-w c = simp length-set (omega (arith, c.loop-n.invariant.1.second.kept))

pub returns-then-end-w : goal.returns-then-end-w
returns-then-end-w c =
    let at = c.loop-n in
    let last = rw c.next_bar-w.ensures at c.if-end-w.true in
    rw c.mark.ensures (out_last at.invariant.0.bar at.invariant.1 c.loop-n-test.true c.requires.1 last)

pub take_changes-w-requires : goal.take_changes-w-requires
take_changes-w-requires c =
    let at = c.loop-n in
    let more = rw c.next_bar-w.ensures at c.if-end-w.false in
    rw c.next_bar-w.ensures (walking_ready at.invariant.0 c.requires.0.track _ c.requires.0.end_fits more)

pub loop-n-preserved : goal.loop-n-preserved
loop-n-preserved c =
    let at = c.loop-n in
    let next = c.next_bar-w.ensures in
    let more = rw next at c.if-end-w.false in
    let s = rw next at c.take_changes-w.ensures in
    rw c.mark.ensures (
      walking_on at.invariant.0 s _ c.requires.0.end_fits more,
      out_more at.invariant.0.bar at.invariant.1 c.loop-n-test.true c.requires.1 s more,
    )

pub shape_of-starts : goal.shape_of-starts
shape_of-starts c = c.loop-n.invariant.1.first.kept

pub shape_of-marks : goal.shape_of-marks
shape_of-marks c = c.loop-n.invariant.1.second.kept

pub returns : goal.returns
returns c =
    let all : c.loop-n.n ≡ c.args.max_bars = omega arith in
    rw all at (out_end c.loop-n.invariant.0.bar c.loop-n.invariant.1 c.loop-n-test.false)
