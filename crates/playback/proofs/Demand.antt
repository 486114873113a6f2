-- Demand 3 on the definitions: playback of an engraved staff, and yes to every engraved staff of an even part.
use Prim.Native.Nat.{ℕ}
use mathlib.Core.Bool.{true}
use mathlib.Core.List.{List, map}
use mathlib.Core.Path.{subst⁻¹}
use borrow.Author.Tests.{not-false}
use Rattle.rules.specs.Lists.{All}
use Rattle.rules.specs.Piece.{Piece, ticks_per_quarter}
use Rattle.rules.specs.RawNotes.{RawNote}
use Rattle.rules.specs.Bars.{Bar, bars, bars_up_to, last_bar_end}
use Rattle.rules.specs.Grid.{grid, snapped}
use Rattle.rules.specs.Voices.{voices}
use Rattle.rules.specs.Values.{smallest}
use Rattle.rules.specs.Staff.{engraved_on}
use Rattle.rules.specs.ProofReader.{Right, NoteFound, KeysMeant, EndsMeant}
use Rattle.rules.specs.Refusals.{part_refusals}
use Rattle.rules.specs.Calls.{part_notes, part_even, proof_read_refusals}
use Rattle.laws.specs.Admitted.{Passes}
use Rattle.laws.specs.Lines.{Line}
use Rattle.laws.proofs.Arrays.{yes_written}
use Rattle.laws.proofs.BarLaws.{bars_consecutive}
use Rattle.laws.proofs.Grid.{grid_some}
use Rattle.laws.proofs.Lists.{All-left, All-right}
use Rattle.laws.proofs.Refusals.{admitted_part, ticks_per_quarter_positive, unless_agree}
use Rattle.laws.proofs.Splits.{split_total, split_staff}
use Rattle.laws.proofs.Verdict.{says_even}
use Rattle.laws.proofs.VoiceLaws.{voices_four, voices_line, voices_found, voices_meant, voices_closed}
use Rattle.playback.specs.Demand.{Even, PlaysBack, EngravedRight, VerdictYes, PartPlaysBack, EngravedYes}
use Rattle.playback.proofs.Engraved.{Engraves, staff_engraves, staff_shape}
use Rattle.playback.proofs.Heard.{heard_found, heard_meant, heard_ends}

-- ---- notes on a grid

module _ (p g : ℕ) (ns : List RawNote) (bs : List Bar) (even : Even p g bs) where
  lines : All (Line (smallest p) 0) (voices g ns)
  lines = voices_line (smallest p) g ns even.grid even.fits

  engraves : Engraves p (voices g ns) bs
  engraves =
      staff_engraves p (smallest p) (λ t. split_total p t even.ticks) (split_staff p) (voices g ns) lines (voices_four g ns) bs
      even.row even.lengths

  right : Right p g ns bs (engraved_on p g ns bs)
  right =
      let e : ℕ = last_bar_end bs in
      let snaps : List RawNote = map (snapped g) ns in
      record {
        values = engraves.values;
        full = engraves.full;
        clean = engraves.clean;
        ties = engraves.ties;
        found = subst⁻¹ (λ pss. All (NoteFound e pss) snaps) engraves.plays (heard_found e snaps (voices g ns) (voices_found g ns even.grid));
        meant = subst⁻¹ (All (All (KeysMeant e snaps))) engraves.plays (heard_meant e snaps (voices g ns) (voices_meant g ns even.grid));
        ends = subst⁻¹ (All (EndsMeant e snaps)) engraves.plays (heard_ends e snaps (smallest p) (voices g ns) lines (voices_closed g ns even.grid));
      }

pub plays_back : PlaysBack
plays_back p g ns bs even = (engraves p g ns bs even).plays

pub engraved_right : EngravedRight
engraved_right = right

pub verdict_yes : VerdictYes
verdict_yes p g ns bs even =
    yes_written p g ns bs (engraved_on p g ns bs) (staff_shape p (voices g ns) bs (voices_four g ns)) (right p g ns bs even)

-- ---- parts of a piece

part_even_lem : (x : Piece) (k work : ℕ) → Passes (proof_read_refusals x k work)
    → Even (ticks_per_quarter x) (grid (ticks_per_quarter x) (part_notes x k)) (bars x)
unfolding bars_up_to
part_even_lem x k work h =
    let known = admitted_part x k (All-left _ (part_refusals x k) _ h) in
    let last = All-right _ (part_refusals x k) _ h in
    let evens = (says_even _ _ _).0 (not-false (part_even x k) last.1.0) in
    record {
      ticks = ticks_per_quarter_positive x known;
      grid = grid_some (ticks_per_quarter x) (part_notes x k);
      fits = evens.0;
      row = bars_consecutive _ _ _ _ 0;
      lengths = evens.1;
    }

pub part_plays_back : PartPlaysBack
part_plays_back x k work h = plays_back _ _ _ _ (part_even_lem x k work h)

pub engraved_yes : EngravedYes
engraved_yes x k work = unless_agree (proof_read_refusals x k work) _ true (λ h. verdict_yes _ _ _ _ (part_even_lem x k work h))
