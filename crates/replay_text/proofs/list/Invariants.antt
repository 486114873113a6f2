-- `replay_text::list` reads a list to an array. The invariant: i numbers stand in the array, and those from the cursor on are left.
use Prim.Native.Nat.{◌≤◌}
use mathlib.Core.Bool.{false}
use lib.ListN.{length}
use Rattle.replay_text.specs.Numbers.{bounded_at, large}
use Rattle.replay_text.proofs.Laws.{Reading}
use Rattle.replay_text.proofs.list.Given as goal

abbrev pub invariant-loop-i : goal.invariant-loop-i
invariant-loop-i g l =
    let n = g.T.Number in
    (l.count ≤ length l.initial.out)
    × Reading (bounded_at false n.MOST large l.text) l.count l.initial.next (n.values l.initial.out) (n.values l.out) l.next l.i
