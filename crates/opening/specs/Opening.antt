-- What is known of a piece and of a part that a call has opened.
use Rattle.std.specs.Prelude.{ℕ, ◌≡◌, length}
use Rattle.std.specs.Prelude as std
use Rattle.std.specs.Result.{IfOk}
use Rattle.rules.specs.Calls.{part_track}
use Rattle.rules.specs.Piece.{Piece}
use Rattle.rules.specs.RawNotes.{parts}
use Rattle.rules.specs.Refusals.{first_number, note_refusals, part_refusals}
use Rattle.basics.specs.declared.Refusal.{Refusal}
use Rattle.basics.specs.Refusals.{number_of}
use Rattle.tracks.specs.Spans.{IsSpan}
use Rattle.tracks.specs.declared.Span.{Span}

-- A piece: the first of 1 to 6 that applies, or how many parts it has.
pub record NotesOpened (x : Piece) (r : std.Result ℕ Refusal) : Type 0 where
  pub number : number_of r ≡ first_number (note_refusals x)
  pub parts : IfOk r (λ n. n ≡ length (parts x))

-- A part: the first of 1 to 7 that applies, or where the part's own track stands.
pub record PartOpened (x : Piece) (k : ℕ) (r : std.Result Span Refusal) : Type 0 where
  pub number : number_of r ≡ first_number (part_refusals x k)
  pub own : IfOk r (IsSpan x.deltas x.words (part_track x k))
