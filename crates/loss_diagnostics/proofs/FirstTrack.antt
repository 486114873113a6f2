-- The first track: its meter's length, and what is off the measure.
use Prim.Native.Nat.{ℕ, ◌+◌, ◌<◌, ◌^◌}
use mathlib.Core.List.{List, map}
use mathlib.Core.Path.{◌≡◌, sym, ap, ◌∙◌}
use native.Mathlib.Omega.{arith}
use lib.ListN.{length}
use Rattle.rules.specs.Piece.{Piece, Event, first_track, ticks_per_quarter}
use Rattle.rules.specs.Changes.{Change, Meter, common_time, meter_changes}
use Rattle.rules.specs.Lists.{first_or}
use Rattle.rules.specs.Diagnostics.{any_meter_length, off_measure_found}
use Rattle.laws.specs.Admitted.{Admitted}
use Rattle.track_events.specs.Track.{events_of, stretch}
use Rattle.track_events.proofs.Tracks.{length_stretch}
use Rattle.tracks.specs.Spans.{IsSpan}
use Rattle.tracks.specs.declared.Span.{Span}
use Rattle.tracks.proofs.Cuts.{span_track}
use Rattle.event_diagnostics.specs.declared.Group.TheVariants.{OffMeasure}
use Rattle.findings.specs.Found.{FoundIn}
use Rattle.event_diagnostics.specs.Groups.{meter_in, meter_length, found_of, Searchable}
use Rattle.findings.proofs.Putting.{found_as}
use Rattle.event_diagnostics.proofs.Searching.{any_meter}

module _ (x : Piece) (known : Admitted x) where
  module _ {r : Span} (span : IsSpan x.deltas x.words (first_track x) r) where
    abbrev ds : List ℕ
    ds = stretch r.from r.to x.deltas

    abbrev ws : List ℕ
    ws = stretch r.from r.to x.words

    pub first_searchable : {at : ℕ} → at + length x.deltas < 2 ^ 32 → Searchable ds ws 0 at
    first_searchable h =
        record {
          events = span_track x known span;
          numbered = omega arith;
          room = omega (arith, length_stretch r.from r.to x.deltas span.order span.deltas, span.deltas);
        }

    pub off_found : {p l at next : ℕ} {p₀ d₀ p₁ d₁ : List ℕ} → p ≡ ticks_per_quarter x → l ≡ meter_length p (meter_in ws)
        → FoundIn (found_of (OffMeasure l) 0 (events_of ds ws)) (length ds) at p₀ d₀ next p₁ d₁
        → FoundIn (off_measure_found x) (length x.deltas) at p₀ d₀ next p₁ d₁
    off_found {p} {l} e f q =
        record {
          found =
              found_as
              (ap (λ (m : ℕ). found_of (OffMeasure m) 0 (events_of ds ws)) long ∙ ap (found_of (OffMeasure (any_meter_length x)) 0) span.events)
              q.found;
          few = omega (arith, q.few, length_stretch r.from r.to x.deltas span.order span.deltas, span.deltas);
        }
      where
        meter : meter_in ws ≡ first_or common_time (map (λ (c : Change Meter). c.to) (meter_changes (first_track x)))
        meter =
            sym (any_meter ds ws (span_track x known span).same)
            ∙ ap (λ (es : List Event). first_or common_time (map (λ (c : Change Meter). c.to) (meter_changes es))) span.events

        long : l ≡ any_meter_length x
        long = f ∙ (λ i. meter_length (e i) (meter i))
