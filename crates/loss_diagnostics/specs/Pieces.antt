-- What the search through a piece asks.
use Rattle.std.specs.Prelude.{ℕ, ◌+◌, ◌*◌, ◌≤◌, List, length}
use Rattle.rules.specs.Piece.{Piece}
use Rattle.rules.specs.RawNotes.{most_notes}
use Rattle.rules.specs.Refusals.{most_events}
use Rattle.laws.specs.Admitted.{Admitted}

-- timecode is one; an event is off the measure or not, a system event or not, and an off or an on that is unmatched or not
abbrev pub most_diagnostics : ℕ
most_diagnostics = 3 * most_events + 1

-- the piece is admitted, and the work area has room for the starts of each track
pub record CanFind (x : Piece) (w : List ℕ) (n : ℕ) : Type 0 where
  pub admitted : Admitted x
  pub most : most_notes x ≤ n
  pub area : 16 * n ≤ length w
