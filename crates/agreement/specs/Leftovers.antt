-- M-101 of what `engrave` writes, for a reader; the proof is in proofs/Leftovers.antt.
use Rattle.std.specs.Prelude.{ℕ, true, List, ◌≡◌}
use Rattle.rules.specs.Lists.{All}
use Rattle.rules.specs.Piece.{Piece, ticks_per_quarter}
use Rattle.rules.specs.Bars.{bars}
use Rattle.rules.specs.Grid.{grid}
use Rattle.rules.specs.Voices.{voices}
use Rattle.rules.specs.Items.{Item, StaffArrays, read_items, cut_by}
use Rattle.rules.specs.Refusals.{given}
use Rattle.rules.specs.Calls.{StaffSize, part_notes, part_arrays, part_even, EngravedLists}
use Rattle.laws.specs.Leftovers.{AddUp}
use Rattle.agreement.specs.Demand.{Engraves, used, used_leftovers}

-- the items that each count of a staff's arrays owns
abbrev pub owned_items : StaffArrays → List (List Item)
owned_items s = cut_by s.counts (read_items s.heads s.keys)

-- part k of a piece, engraved at this size into outputs that are left so
pub record EngraveLeaves (x : Piece) (k : ℕ) (size : StaffSize) (left : EngravedLists) : Type 0 where
  -- The staff itself is unaltered: its three arrays are the part's staff, whose definition has no leftovers in it.
  pub unaltered : used size left.staff ≡ part_arrays x k
  -- For voice 0, and for each other voice with something sounding in the bar, written length plus leftover equals the bar's length, at any division;
  -- any other voice has leftover 0. The i-th leftover stands beside the items that the i-th count owns.
  pub adds_up : AddUp (ticks_per_quarter x) (voices (grid (ticks_per_quarter x) (part_notes x k)) (part_notes x k)) (bars x)
      (owned_items (used size left.staff)) (used_leftovers size left.leftovers)
  -- An even part has leftovers 0 everywhere.
  pub even : part_even x k ≡ true → All (λ (n : ℕ). n ≡ 0) (used_leftovers size left.leftovers)

-- for every piece and part, lent outputs and work area, wherever the call is answered
abbrev pub EngraveAddsUp : Type 0
EngraveAddsUp = (x : Piece) (k : ℕ) (lent left : EngravedLists) (work₀ work₁ : List ℕ) (size : StaffSize)
    → Engraves x k lent work₀ (given size) left work₁ → EngraveLeaves x k size left
