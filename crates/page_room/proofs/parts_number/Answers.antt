use mathlib.Core.Path.{◌≡◌, refl, ◌∙◌}
use native.Mathlib.Omega.{arith}
use lib.ListN.{length}
use Rattle.rules.specs.Piece.{piece}
use Rattle.rules.specs.RawNotes.{parts}
use Rattle.std.proofs.lemmas.Result.{err_from_is_err_and}
use Rattle.admission.proofs.Refused.{positive}
use Rattle.page_room.proofs.Numbers.{some_part, asked_number, asked_passes, asked_next, asked_none}
use Rattle.page_room.proofs.parts_number.Goals as goal

pub loop-part-init : goal.loop-part-init
loop-part-init c = (refl, refl, λ l. absurd (omega (arith, l)))

pub part_number-requires : goal.part_number-requires
part_number-requires c =
    record { passes = c.requires.passes; part_in_bounds = omega (arith, c.requires.parts_value) }

pub returns-in_err-part_number : goal.returns-in_err-part_number
returns-in_err-part_number c =
    let own = rw c.loop-part.invariant.0 at c.in_err-part_number.ensures in
    let p = err_from_is_err_and c.from_residual.result c.from_residual.ensures.1 in
    rw (p.1, p.2) (asked_number _ _ _ _ (omega (arith, c.requires.parts_value)) _ own (positive _) ∙ c.loop-part.invariant.1)

pub loop-part-preserved : goal.loop-part-preserved
loop-part-preserved c =
    let own = rw c.loop-part.invariant.0 at c.in_ok-part_number.ensures in (
      omega arith,
      asked_next _ _ _ _ (omega (arith, c.requires.parts_value)) own ∙ c.loop-part.invariant.1,
      λ _. (asked_passes _ _ _ _ (omega (arith, c.requires.parts_value)) own).0,
    )

pub returns : goal.returns
returns c =
    let all : c.loop-part.part ≡ length (parts (piece c.args.sizes.now c.args.deltas.now c.args.words.now)) =
    omega (arith, c.requires.parts_value) in
    asked_none _ _ _ _ all (c.loop-part.invariant.2 (omega (arith, all, some_part _ c.requires.passes))) ∙ c.loop-part.invariant.1
