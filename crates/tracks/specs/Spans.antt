-- What the calls over a whole piece answer: a track's stretch of the arrays.
use Rattle.std.specs.Prelude.{ℕ, ◌≤◌, true, List, ◌≡◌, length}
use Rattle.rules.specs.Piece.{Event, piece, sizes_agree, first_track}
use Rattle.track_events.specs.Track.{events_of, stretch}
use Rattle.tracks.specs.declared.Span.{Span}

-- r is the stretch of deltas ds and words ws that has the events es
pub record IsSpan (ds ws : List ℕ) (es : List Event) (r : Span) : Type 0 where
  pub order : r.from ≤ r.to
  pub deltas : r.to ≤ length ds
  pub words : r.to ≤ length ws
  pub events : events_of (stretch r.from r.to ds) (stretch r.from r.to ws) ≡ es

-- r is the first track's stretch, in whatever arrays agree with the sizes
abbrev pub FirstSpan : List ℕ → Span → Type 0
FirstSpan sizes r = (ds ws : List ℕ) → sizes_agree (piece sizes ds ws) ≡ true → IsSpan ds ws (first_track (piece sizes ds ws)) r
