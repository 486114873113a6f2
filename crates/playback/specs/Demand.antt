-- Demand 3 on the definitions: what is proved of every engraved staff of an even part.
use Rattle.std.specs.Prelude.{ℕ, ◌<◌, true, List, map, ◌≡◌}
use Rattle.std.specs.Int.{◌∣◌}
use Rattle.rules.specs.Lists.{All}
use Rattle.rules.specs.Piece.{Piece, ticks_per_quarter}
use Rattle.rules.specs.RawNotes.{RawNote}
use Rattle.rules.specs.Bars.{Bar, bars, last_bar_end}
use Rattle.rules.specs.Grid.{grid}
use Rattle.rules.specs.Voices.{voices}
use Rattle.rules.specs.Values.{smallest}
use Rattle.rules.specs.Items.{arrays_of}
use Rattle.rules.specs.Staff.{engraved_on, part_staff}
use Rattle.rules.specs.ProofReader.{played, Right}
use Rattle.rules.specs.ProofReaderTests.{verdict_on}
use Rattle.rules.specs.Refusals.{unless}
use Rattle.rules.specs.Calls.{part_track, part_notes, part_arrays, proof_read_refusals, proof_read_call}
use Rattle.laws.specs.Admitted.{Passes}
use Rattle.laws.specs.Lines.{Consecutive}
use Rattle.playback.specs.Performance.{heard_to}

-- notes on a grid g, in bars that follow one another from tick 0, all multiples of the smallest written value
pub record Even (p g : ℕ) (bs : List Bar) : Type 0 where
  pub ticks : 0 < p
  pub grid : 0 < g
  pub fits : smallest p ∣ g
  pub row : Consecutive 0 bs
  pub lengths : All (λ (b : Bar). smallest p ∣ b.len) bs

-- Playback of an engraved staff is the voices' chords up to the last bar's end.
abbrev pub PlaysBack : Type 0
PlaysBack = (p g : ℕ) (ns : List RawNote) (bs : List Bar) → Even p g bs
    → played p bs (engraved_on p g ns bs) ≡ map (heard_to (last_bar_end bs)) (voices g ns)

-- An engraved staff is right, and the proof-reader says yes to its arrays.
abbrev pub EngravedRight : Type 0
EngravedRight = (p g : ℕ) (ns : List RawNote) (bs : List Bar) → Even p g bs → Right p g ns bs (engraved_on p g ns bs)

abbrev pub VerdictYes : Type 0
VerdictYes = (p g : ℕ) (ns : List RawNote) (bs : List Bar) → Even p g bs → verdict_on p g ns bs (arrays_of (engraved_on p g ns bs)) ≡ true

-- The same of every part of every piece that the numbers let pass. Where none of them applies, playback is the performance ..
abbrev pub PartPlaysBack : Type 0
PartPlaysBack = (x : Piece) (k work : ℕ) → Passes (proof_read_refusals x k work)
    → played (ticks_per_quarter x) (bars x) (part_staff x (part_track x k))
    ≡ map (heard_to (last_bar_end (bars x))) (voices (grid (ticks_per_quarter x) (part_notes x k)) (part_notes x k))

-- .. and the proof-reader's answer to the engraved arrays is document 01's number where there is one, else yes.
abbrev pub EngravedYes : Type 0
EngravedYes = (x : Piece) (k work : ℕ) → proof_read_call x k (part_arrays x k) work ≡ unless (proof_read_refusals x k work) true
