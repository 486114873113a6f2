-- Demand 3: what the calls answer is the verdict of section 8, and what engraving leaves is the part's staff.
use mathlib.Core.Bool.{Bool, true, false, true≢false}
use mathlib.Core.List.{List, [], ◌∷◌}
use mathlib.Core.Logic.Iff
use mathlib.Core.Logic.{◌↔◌, inl, inr}
use mathlib.Core.Path.{◌≡◌, refl, sym, ap, ◌∙◌}
use Prim.Native.Nat.{ℕ, ◌≤◌}
use lib.ListN.{length}
use Rattle.rules.specs.Piece.{Piece, ticks_per_quarter}
use Rattle.rules.specs.Bars.{bars}
use Rattle.rules.specs.Items.{StaffArrays, arrays_of}
use Rattle.rules.specs.Grid.{grid}
use Rattle.rules.specs.Staff.{engraved, leftovers_on}
use Rattle.rules.specs.ProofReaderTests.{verdict}
use Rattle.rules.specs.Refusals.{Result, refused, given, answers, part_refusals, uneven_part, work_needed}
use Rattle.rules.specs.Calls.{StaffSize, part_notes, part_even, part_size, EngravedLists, proof_read_refusals}
use Rattle.laws.specs.Admitted.{Passes}
use Rattle.laws.proofs.Order.{by_bool}
use Rattle.laws.proofs.Refusals.{passes_given}
use Rattle.laws.proofs.Verdict.{yes_exactly, formed_exactly}
use Rattle.agreement.specs.Demand.{Engraves, Reads, RightFor, Room, Demand3}
use Rattle.agreement.proofs.Together.{handed, handed_leftovers, read_is}
use Rattle.staffs.proofs.PartSizes.{engraves_part}

given_same : {a b : Bool} → given a ≡ given b → a ≡ b
given_same {a} e = ap (λ (r : Result Bool). elim r [ refused n ↦ a | given c ↦ c ]) e

-- ---- what the proof-reader says

module _ (x : Piece) (k : ℕ) (s : StaffArrays) {work₀ work₁ : List ℕ} {answer : Result Bool} (h : Passes (proof_read_refusals x k (length work₀)))
    (read : Reads x k s work₀ answer work₁) where
  said : answer ≡ given (verdict (ticks_per_quarter x) (part_notes x k) (bars x) s)
  said = read.answered ∙ passes_given (proof_read_refusals x k (length work₀)) _ h

  yes : (answer ≡ given true) ↔ RightFor x k s
  yes =
      let says = yes_exactly (ticks_per_quarter x) (part_notes x k) (bars x) s in
      (λ y. says.0 (given_same (sym said ∙ y)), λ r. said ∙ ap given (says.1 r))

  no : (answer ≡ given false) ↔ (RightFor x k s → ⊥)
  no = (
    λ n r. true≢false (given_same (sym (yes.1 r) ∙ n)),
    λ wrong.
        elim (by_bool (verdict (ticks_per_quarter x) (part_notes x k) (bars x) s)) [
          | inl t ↦ absurd (wrong (yes.0 (said ∙ ap given t)))
          | inr f ↦ said ∙ ap given f
        ],
  )

-- ---- what the engraver writes

not_refused : (x : Piece) (k : ℕ) (lent left : EngravedLists) (work₀ work₁ : List ℕ) (answer : Result StaffSize) → Passes (part_refusals x k)
    → work_needed x ≤ length work₀ → Room (part_size x k) lent → Engraves x k lent work₀ answer left work₁ → answer ≡ given (part_size x k)
not_refused x k lent left work₀ work₁ answer part enough room run =
    run.answered
    ∙ ap (answers (λ (s : EngravedLists). part_size x k))
    (engraves_part x k (length lent.staff.counts) (length lent.staff.heads) (length lent.staff.keys) (length lent.leftovers)
    (length work₀) part enough room.counts room.heads room.keys room.leftovers)

pub demand_3 : Demand3
demand_3 =
    record {
      shared_read =
          λ x y k j s work₀ work₁ area₀ area₁ answer other same h read h' read'.
          said x k s h read ∙ ap given (λ i. verdict (same.division i) (same.notes i) (same.bars i) s) ∙ sym (said y j s h' read');
      shared_written =
          λ x y k j lent left lent' left' work₀ work₁ area₀ area₁ size other same run run'. (
            handed x k run size refl
                ∙ (λ i. arrays_of (engraved (same.division i) (same.notes i) (same.bars i)))
                ∙ sym (handed y j run' other refl),
            handed_leftovers x k run size refl
                ∙ (λ i. leftovers_on (same.division i) (grid (same.division i) (same.notes i)) (same.notes i) (same.bars i))
                ∙ sym (handed_leftovers y j run' other refl),
          );
      exactly = λ x k s work₀ work₁ answer h read. yes x k s h read;
      otherwise = λ x k s work₀ work₁ answer h read. no x k s h read;
      formed =
          λ x k s work₀ work₁ answer h read f.
          Iff.trans (yes x k s h read) (formed_exactly (ticks_per_quarter x) (part_notes x k) (bars x) s f);
      engraves = not_refused;
      engraved =
          λ x k lent left work₀ work₁ area₀ area₁ size answer run even enough read.
          read_is x k run size refl enough read ∙ passes_given (uneven_part (part_even x k) ∷ []) true (rw even (refl, tt));
    }
