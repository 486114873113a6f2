-- M-101 of what `engrave` writes: the fronts of the outputs are the part's staff and leftovers, and the staff's arrays are read back.
use Prim.Native.Nat.{ℕ}
use mathlib.Core.List.{flatten}
use mathlib.Core.Path.{◌≡◌, refl, ap, ◌∙◌, subst⁻¹}
use Rattle.rules.specs.Lists.{All}
use Rattle.rules.specs.Piece.{Piece, ticks_per_quarter}
use Rattle.rules.specs.Bars.{bars}
use Rattle.rules.specs.Grid.{grid}
use Rattle.rules.specs.Voices.{voices}
use Rattle.rules.specs.Staff.{part_staff}
use Rattle.rules.specs.Calls.{part_track, part_notes, part_arrays}
use Rattle.laws.proofs.Arrays.{read_voices, staff_encodable}
use Rattle.laws.proofs.Leftovers.{part_adds_up, even_part_leaves_nothing}
use Rattle.laws.proofs.Refusals.{admitted_part}
use Rattle.agreement.specs.Leftovers.{owned_items, EngraveAddsUp}
use Rattle.agreement.proofs.Together.{part_passes, handed, handed_leftovers}

-- each count of a part's staff owns the items of its voice in its bar
part_owned : (x : Piece) (k : ℕ) → owned_items (part_arrays x k) ≡ flatten (part_staff x (part_track x k))
part_owned x k =
    let p : ℕ = ticks_per_quarter x in
    read_voices (part_staff x (part_track x k)) (staff_encodable p (voices (grid p (part_notes x k)) (part_notes x k)) (bars x))

pub engrave_adds_up : EngraveAddsUp
engrave_adds_up x k lent left work₀ work₁ size run =
    let known = admitted_part x k (part_passes x k run size refl) in
    let staff = handed x k run size refl in
    let over = handed_leftovers x k run size refl in
    record {
      unaltered = staff;
      adds_up = rw (ap owned_items staff ∙ part_owned x k, over) (part_adds_up x k known);
      even = λ even. subst⁻¹ (All (λ (n : ℕ). n ≡ 0)) over (even_part_leaves_nothing x k known even);
    }
