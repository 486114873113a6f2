-- `take_items` takes items one by one. The loop's invariant: what is left to be heard from here is what was left at the start.
use Prim.Native.Nat.{◌+◌, ◌*◌, ◌≤◌}
use Rattle.proofread_items.proofs.Reading.{Reading, items_of, items_left}
use Rattle.proofread_items.proofs.take_items.Given as goal

abbrev pub invariant-loop-i : goal.invariant-loop-i
invariant-loop-i l = Reading l.g l.n l.m l.e l.p (items_of l.heads l.keys l.first l.count) (items_left l.heads l.keys l.first l.count l.i) l.initial.work l.work l.initial.r l.r × (l.r.tick ≤ l.initial.r.tick + 3145680 * l.i)
