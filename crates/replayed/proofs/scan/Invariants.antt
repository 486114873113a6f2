-- `replayed::scan` meets its contract. The invariant: reading on from here gives what reading from the start gives; and past the text nothing was read.
use Prim.Native.Nat.{◌≤◌}
use mathlib.Core.Path.{◌≡◌}
use lib.ListN.{length, drop}
use Rattle.replayed.specs.Decimals.{scanned}
use Rattle.replayed.proofs.scan.Given as goal

abbrev pub invariant-loop-at : goal.invariant-loop-at
invariant-loop-at l =
    (scanned l.label (drop l.at l.text) l.found l.at ≡ scanned l.label (drop l.from l.text) l.initial.found l.from)
    × (length l.text ≤ l.from → l.at ≡ l.from)
