-- The grid has a tick or more, and fits where the ticks per quarter do.
use Prim.Native.Nat.{ℕ, ◌*◌, ◌/◌, ◌≤◌, ◌<◌, max}
use mathlib.Core.Bool.{Bool, true, false, cond}
use mathlib.Core.List.{List}
use native.Mathlib.Omega.{arith}
use lib.Dec.{ltb}
use lib.ListN.{length}
use Rattle.rules.specs.RawNotes.{RawNote}
use Rattle.rules.specs.Grid.{sixteenth, off_count, grid}

cases : (p : ℕ) (t : Bool) → (0 < cond t (max 1 (p / 8)) (sixteenth p)) × (p ≤ 65535 → cond t (max 1 (p / 8)) (sixteenth p) ≤ 65535)
cases p true = (omega arith, λ h. omega arith)
cases p false = (omega arith, λ h. omega arith)

module _ (p : ℕ) (ns : List RawNote) where
  pub grid_some : 0 < grid p ns
  unfolding grid
  grid_some = (cases p (ltb (length ns) (off_count p ns * 10))).0

  pub grid_small : p ≤ 65535 → grid p ns ≤ 65535
  unfolding grid
  grid_small = (cases p (ltb (length ns) (off_count p ns * 10))).1
