-- What an admitted piece's bars are walked from: its ranges, that the first track can be walked, and that its bars are the piece's.
use Prim.Native.Nat.{ℕ, ◌≤◌, ◌<◌}
use mathlib.Core.Path.{◌≡◌}
use native.Mathlib.Omega.{arith}
use Rattle.rules.specs.Bars.{bars_in, bars_up_to}
use Rattle.rules.specs.Piece.{Piece}
use Rattle.laws.specs.Admitted.{Admitted}
use Rattle.laws.proofs.Refusals.{ticks_per_quarter_positive}
use Rattle.track_events.specs.Track.{events_of, stretch}
use Rattle.tracks.proofs.Cuts.{span_track}
use Rattle.tracks.proofs.Ranges.{end_at_most, quarter_fits}
use Rattle.bar_walk.specs.Walk.{CanWalk}
use Rattle.bar_source.specs.declared.BarSource.{BarSource}
use Rattle.bar_source.specs.Source.{IsBarSource}

module _ (x : Piece) (known : Admitted x) {r : BarSource} (is : IsBarSource x r) where
  pub positive : 0 < r.p
  positive = omega (arith, is.quarter, ticks_per_quarter_positive x known)

  pub small : r.p ≤ 65535
  small = omega (arith, is.quarter, quarter_fits x known)

  pub walked : CanWalk (stretch r.from r.to x.deltas) (stretch r.from r.to x.words) r.p r.end
  walked =
      record { track = span_track x known is.first; ticks = small; end_fits = omega (arith, is.end, end_at_most x known) }

-- the bars that are walked are the piece's
module _ {x : Piece} {r : BarSource} (is : IsBarSource x r) where
  pub bars_are : (limit : ℕ)
      → bars_in limit r.p (events_of (stretch r.from r.to x.deltas) (stretch r.from r.to x.words)) r.end ≡ bars_up_to limit x
  unfolding bars_up_to
  bars_are limit i = bars_in limit (is.quarter i) (is.first.events i) (is.end i)
