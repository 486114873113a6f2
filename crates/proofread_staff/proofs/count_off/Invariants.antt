-- `count_off` counts note after note. The loop's invariant: those counted and those left are all.
use Prim.Native.Nat.{◌+◌, ◌≤◌}
use mathlib.Core.Path.{◌≡◌}
use Rattle.rules.specs.Grid.{off_count}
use Rattle.proofread_staff.specs.Staffs.{raws_at}
use Rattle.proofread_staff.proofs.Measuring.{off_left}
use Rattle.proofread_staff.proofs.count_off.Given as goal

abbrev pub invariant-loop-i : goal.invariant-loop-i
invariant-loop-i l = (l.offs + off_left l.p l.n l.m l.work l.i ≡ off_count l.p (raws_at l.n l.m l.work)) × (l.offs ≤ l.i)
