-- `all_found` tests the notes one by one. The loop's invariant: the test of the notes from i on is the test of all.
use Prim.Native.Nat.{◌-◌}
use mathlib.Core.Path.{◌≡◌}
use Rattle.laws.specs.Sort.{count}
use Rattle.rules.specs.Lists.{every}
use Rattle.proofread_notes.specs.Columns.{found?, all_found?}
use Rattle.proofread_notes.proofs.all_found.Given as goal

abbrev pub invariant-loop-i : goal.invariant-loop-i
invariant-loop-i l = every (found? l.g l.n l.e l.work) (count l.i (l.m - l.i)) ≡ all_found? l.g l.n l.m l.e l.work
