-- `push_keys` writes two words an item. The loop's invariant: those up to item i are written, and those from it on are to come.
use Prim.Native.Nat.{◌-◌, ◌*◌}
use mathlib.Core.List.{◌++◌}
use lib.ListN.{take}
use Rattle.laws.proofs.Filling.{Filling}
use Rattle.items.specs.Writing.{pairs}
use Rattle.items.proofs.push_keys.Given as goal

abbrev pub invariant-loop-i : goal.invariant-loop-i
invariant-loop-i l = Filling (take (2 * l.from) l.initial.keys ++ pairs l.low l.high (l.to - l.from)) (pairs l.low l.high (l.to - l.i)) (2 * l.i) l.initial.keys l.keys
