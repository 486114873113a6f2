-- `item_lines::put_keys` puts the keys of a word. Invariant: those of the first k bits are put, in at most 21 k bytes.
use Rattle.item_lines.specs.Items.{Keyed}
use Prim.Native.Nat.{ℕ}
use mathlib.Core.List.{◌++◌, List}
use lib.ListN.{length}
use mathlib.Core.Path.{◌≡◌}
use Prim.Native.Nat.{◌+◌, ◌*◌, ◌≤◌}
use Rattle.item_lines.specs.Items.{word_keys}
use Rattle.item_lines.proofs.put_keys.Given as goal

abbrev pub invariant-loop-k : goal.invariant-loop-k
invariant-loop-k l = (length l.out ≡ length l.initial.out) × (l.spot.at ≤ l.initial.spot.at + 21 * l.k)
    × ((t ks : List ℕ) → Keyed t ks l.initial.spot.at l.initial.spot.none l.initial.out → Keyed t (ks ++ word_keys l.k l.word l.base) l.spot.at l.spot.none l.out)
