use mathlib.Core.Path.{refl}
use native.Mathlib.Omega.{arith}
use Rattle.staff.proofs.BarWalk.{midway_start, midway_counts, midway_heads, midway_keys, midway_leftovers}
use Rattle.staff.proofs.BarWalk.{midway_can, midway_more, midway_end}
use Rattle.staff.proofs.push_bar.Goals as goal

pub loop-v-init : goal.loop-v-init
loop-v-init c = midway_start _ _ _ _ _ _ _ _ _ _ _ c.requires.2

pub overflow_mul-place : goal.overflow_mul-place
overflow_mul-place c =
    omega (arith, c.requires.2.few)

pub overflow_add-place : goal.overflow_add-place
overflow_add-place c =
    omega (arith, c.requires.2.few)

pub push_counted-r-requires : goal.push_counted-r-requires
push_counted-r-requires c =
    let at = c.loop-v in
    let pre = c.requires in
    (pre.0, pre.1 at.v (omega arith), midway_can _ _ _ _ _ _ _ _ _ _ _ c.requires.2 at.invariant (omega arith))

pub loop-v-preserved : goal.loop-v-preserved
loop-v-preserved c =
    midway_more _ _ _ _ _ _ _ _ _ _ _ c.requires.2 c.loop-v.invariant (omega arith) c.push_counted-r.ensures

pub shape_of-counts : goal.shape_of-counts
shape_of-counts c =
    midway_counts _ _ _ _ _ _ _ _ _ _ _ c.requires.2 c.loop-v.invariant

pub shape_of-heads : goal.shape_of-heads
shape_of-heads c =
    midway_heads _ _ _ _ _ _ _ _ _ _ _ c.requires.2 c.loop-v.invariant

pub shape_of-keys : goal.shape_of-keys
shape_of-keys c =
    midway_keys _ _ _ _ _ _ _ _ _ _ _ c.requires.2 c.loop-v.invariant

pub shape_of-leftovers : goal.shape_of-leftovers
shape_of-leftovers c =
    midway_leftovers _ _ _ _ _ _ _ _ _ _ _ c.requires.2 c.loop-v.invariant

pub returns : goal.returns
returns c =
    midway_end _ _ _ _ _ _ _ _ _ _ _ c.requires.2 c.loop-v.invariant (omega arith) _ refl refl refl
