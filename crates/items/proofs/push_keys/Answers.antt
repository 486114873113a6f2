use Prim.Native.Nat.{◌*◌, ◌≤◌}
use native.Mathlib.Omega.{arith}
use lib.ListN.{length, length-set}
use Rattle.items.proofs.Putting.{filling_at, filling_put, pairs_more, pairs_end}
use Rattle.items.proofs.push_keys.Goals as goal

pub loop-i-init : goal.loop-i-init
loop-i-init c = filling_at _ _ _ (omega arith)

pub bounds-keys-i : goal.bounds-keys-i
bounds-keys-i c = omega (arith, c.loop-i.invariant.kept)

pub bounds-keys-i-in-loop-i : goal.bounds-keys-i-in-loop-i
bounds-keys-i-in-loop-i c = simp length-set (omega (arith, c.loop-i.invariant.kept))

pub loop-i-preserved : goal.loop-i-preserved
loop-i-preserved c =
    let at = c.loop-i in
    pairs_more _ _ (omega arith) (omega (arith, at.invariant.kept)) at.invariant

pub shape_of-keys : goal.shape_of-keys
shape_of-keys c = c.loop-i.invariant.kept

pub returns : goal.returns
returns c =
    let given = c.args in
    let inside : 2 * given.from ≤ length given.keys.now = omega arith in
    filling_put _ _ inside (pairs_end _ _ (omega arith) c.loop-i.invariant)
