use Prim.Native.Nat.{ℕ, ◌+◌, ◌<◌, ◌^◌}
use mathlib.Core.Path.{◌≡◌, ap, subst, ◌∙◌}
use native.Mathlib.Omega.{arith}
use Rattle.bar_walk.proofs.WalkLaws.{walking_sane, walking_ready}
use Rattle.staff.specs.Bars.{engraving}
use Rattle.staff.specs.Staffs.{StaffPut}
use Rattle.staff.proofs.StaffWalk.{onward_start, onward_counts, onward_heads, onward_keys, onward_leftovers}
use Rattle.staff.proofs.StaffWalk.{onward_end_soon, onward_can, onward_more, onward_last, onward_end}
use Rattle.staff.proofs.transcribe_track.Goals as goal

pub first_bar-w-requires : goal.first_bar-w-requires
first_bar-w-requires c =
    c.requires.1.track

pub loop-bars-init : goal.loop-bars-init
loop-bars-init c = onward_start _ _ _ _ _ _ _ _ _ _ _ _ _ c.first_bar-w.ensures

pub length-requires : goal.length-requires
length-requires c =
    walking_sane c.loop-bars.invariant.walking c.requires.1.ticks

pub overflow_add-bar : goal.overflow_add-bar
overflow_add-bar c =
    let pre = c.requires in
    -- the bar ends in range
    let ends : c.loop-bars.w.start + c.length.result < 2 ^ 49 =
    rw c.length.ensures (onward_end_soon _ _ _ _ _ _ _ _ _ _ _ _ _ pre.4 pre.3 pre.1.ticks c.loop-bars.invariant) in
    omega arith

pub push_bar-items-requires : goal.push_bar-items-requires
push_bar-items-requires c =
    let pre = c.requires in (
      pre.0,
      pre.3,
      rw c.length.ensures
          (onward_can _ _ _ _ _ _ _ _ _ _ _ _ _ pre.4 pre.3 pre.1.ticks c.loop-bars.invariant
          c.loop-bars-test.true pre.2),
    )

pub next_bar-w-requires : goal.next_bar-w-requires
next_bar-w-requires c =
    walking_sane c.loop-bars.invariant.walking c.requires.1.ticks

pub shape_of-counts-then-end-w : goal.shape_of-counts-then-end-w
shape_of-counts-then-end-w c =
    let pre = c.requires in
    c.push_bar-items.auto.counts
    ∙ onward_counts _ _ _ _ _ _ _ _ _ _ _ _ _ pre.4 pre.3 pre.1.ticks c.loop-bars.invariant

pub shape_of-heads-then-end-w : goal.shape_of-heads-then-end-w
shape_of-heads-then-end-w c =
    let pre = c.requires in
    c.push_bar-items.auto.heads
    ∙ onward_heads _ _ _ _ _ _ _ _ _ _ _ _ _ pre.4 pre.3 pre.1.ticks c.loop-bars.invariant

pub shape_of-keys-then-end-w : goal.shape_of-keys-then-end-w
shape_of-keys-then-end-w c =
    let pre = c.requires in
    c.push_bar-items.auto.keys
    ∙ onward_keys _ _ _ _ _ _ _ _ _ _ _ _ _ pre.4 pre.3 pre.1.ticks c.loop-bars.invariant

pub shape_of-leftovers-then-end-w : goal.shape_of-leftovers-then-end-w
shape_of-leftovers-then-end-w c =
    let pre = c.requires in
    c.push_bar-items.auto.leftovers
    ∙ onward_leftovers _ _ _ _ _ _ _ _ _ _ _ _ _ pre.4 pre.3 pre.1.ticks c.loop-bars.invariant

pub returns-then-end-w : goal.returns-then-end-w
returns-then-end-w c =
    let pre = c.requires in
    let put = rw c.length.ensures at c.push_bar-items.ensures in
    let last = rw c.next_bar-w.ensures at c.if-end-w.true in
    onward_last _ _ _ _ _ _ _ _ _ _ _ _ _ pre.4 pre.3 pre.1.ticks c.loop-bars.invariant c.loop-bars-test.true put last

pub take_changes-w-requires : goal.take_changes-w-requires
take_changes-w-requires c =
    let pre = c.requires in
    let more = rw c.next_bar-w.ensures at c.if-end-w.false in
    rw c.next_bar-w.ensures (walking_ready c.loop-bars.invariant.walking pre.1.track _ pre.1.end_fits more)

pub loop-bars-preserved : goal.loop-bars-preserved
loop-bars-preserved c =
    let pre = c.requires in
    let put = rw c.length.ensures at c.push_bar-items.ensures in
    let next = c.next_bar-w.ensures in
    let more = rw next at c.if-end-w.false in
    let settled = rw next at c.take_changes-w.ensures in
    onward_more _ _ _ _ _ _ _ _ _ _ _ _ _ pre.4 pre.3 pre.1.ticks c.loop-bars.invariant c.loop-bars-test.true put settled
    pre.1.end_fits more

pub shape_of-counts : goal.shape_of-counts
shape_of-counts c =
    let pre = c.requires in
    onward_counts _ _ _ _ _ _ _ _ _ _ _ _ _ pre.4 pre.3 pre.1.ticks c.loop-bars.invariant

pub shape_of-heads : goal.shape_of-heads
shape_of-heads c =
    let pre = c.requires in
    onward_heads _ _ _ _ _ _ _ _ _ _ _ _ _ pre.4 pre.3 pre.1.ticks c.loop-bars.invariant

pub shape_of-keys : goal.shape_of-keys
shape_of-keys c =
    let pre = c.requires in
    onward_keys _ _ _ _ _ _ _ _ _ _ _ _ _ pre.4 pre.3 pre.1.ticks c.loop-bars.invariant

pub shape_of-leftovers : goal.shape_of-leftovers
shape_of-leftovers c =
    let pre = c.requires in
    onward_leftovers _ _ _ _ _ _ _ _ _ _ _ _ _ pre.4 pre.3 pre.1.ticks c.loop-bars.invariant

pub returns : goal.returns
returns c =
    let pre = c.requires in
    let last : c.loop-bars.bars ≡ c.args.max_bars = omega arith in
    subst (StaffPut _ _ _ _ _ _ _ _ _ _ _ _) (ap (λ (b : ℕ). engraving b c.loop-bars.items c.loop-bars.nexts) last)
    (onward_end _ _ _ _ _ _ _ _ _ _ _ _ _ pre.4 pre.3 pre.1.ticks c.loop-bars.invariant (omega arith))
