-- What the bars of a piece are walked from.
use Rattle.std.specs.Prelude.{◌≡◌}
use Rattle.rules.specs.Bars.{end_of_piece}
use Rattle.rules.specs.Piece.{Piece, first_track, ticks_per_quarter}
use Rattle.tracks.specs.Spans.{IsSpan}
use Rattle.bar_source.specs.declared.BarSource.{BarSource}

-- r has the ticks per quarter, the end of the piece, and where its first track stands
pub record IsBarSource (x : Piece) (r : BarSource) : Type 0 where
  pub quarter : r.p ≡ ticks_per_quarter x
  pub end : r.end ≡ end_of_piece x
  pub first : IsSpan x.deltas x.words (first_track x) (record { from = r.from; to = r.to })
