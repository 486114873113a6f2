-- A part that is opened, with room for work: its collected notes can be read, and what reading its staff answers is the call's answer.
use Prim.Native.Nat.{ℕ, ◌*◌, ◌≤◌}
use mathlib.Core.Bool.{Bool}
use mathlib.Core.Path.{◌≡◌, sym, ap, ◌∙◌}
use mathlib.Core.List.{List}
use lib.ListN.{length}
use Rattle.rules.specs.Piece.{Piece, Event, ticks_per_quarter}
use Rattle.rules.specs.Bars.{bars, bars_in, most_bars}
use Rattle.rules.specs.Grid.{grid}
use Rattle.rules.specs.RawNotes.{raw_notes, most_notes}
use Rattle.rules.specs.Items.{StaffArrays}
use Rattle.rules.specs.Refusals.{Result, part_refusals, work_for}
use Rattle.rules.specs.Calls.{part_notes, proof_read_call}
use Rattle.track_events.specs.Track.{stretch, events_of}
use Rattle.track_events.proofs.Ranges.{track_notes}
use Rattle.raw_notes.specs.Columns.{Noted}
use Rattle.std.specs.Prelude.{Ok}
use Rattle.tracks.specs.declared.Span.{Span}
use Rattle.opening.specs.Opening.{PartOpened}
use Rattle.opening.proofs.Opening.{part_passes, part_admitted, own_track, work_enough}
use Rattle.bar_source.specs.declared.BarSource.{BarSource}
use Rattle.bar_source.specs.Source.{IsBarSource}
use Rattle.bar_source.proofs.Sources.{small, bars_are}
use Rattle.proofread_notes.specs.Columns.{Readable}
use Rattle.proofread_staff.specs.Staffs.{raws_at, answer_on}
use Rattle.proofread.proofs.Collected.{raws_are, notes_readable}

module _ (x : Piece) (k : ℕ) {r : Span} (opened : PartOpened x k (Ok r)) {b : BarSource} (source : IsBarSource x b)
    {n : ℕ} (most : n ≡ most_notes x) where
  -- the part's own events, and those that the bars go by
  abbrev owns : List Event
  owns = events_of (stretch r.from r.to x.deltas) (stretch r.from r.to x.words)

  abbrev firsts : List Event
  firsts = events_of (stretch b.from b.to x.deltas) (stretch b.from b.to x.words)

  -- the m notes of the work area w are the part's, and g is their grid
  module _ {g m : ℕ} {w : List ℕ} (noted : Noted owns n m w) (grids : g ≡ grid b.p (raws_at n m w)) where
    pub readable : 16 * n ≤ length w → Readable g n m w
    readable area = notes_readable noted (track_notes (own_track x k opened)) b.p (small x (part_admitted x k opened) source) area grids

    notes : raws_at n m w ≡ raw_notes owns
    notes = raws_are noted (track_notes (own_track x k opened))

    pub reading_given : (s : StaffArrays) (work : ℕ) {a : Result Bool} → work_for n ≤ work
        → a ≡ answer_on b.p g (raws_at n m w) (bars_in most_bars b.p firsts b.end) s
        → a ≡ proof_read_call x k s work
    reading_given s work enough answer =
        answer ∙ on_their_grid ∙ same
        ∙ sym (work_enough x (part_refusals x k) (part_passes x k opened) n work most _ _ enough)
      where
        on_their_grid : answer_on b.p g (raws_at n m w) (bars_in most_bars b.p firsts b.end) s
            ≡ answer_on b.p (grid b.p (raw_notes owns)) (raw_notes owns) (bars_in most_bars b.p firsts b.end) s
        on_their_grid i =
            answer_on b.p ((grids ∙ ap (grid b.p) notes) i) (notes i) (bars_in most_bars b.p firsts b.end) s

        same : answer_on b.p (grid b.p (raw_notes owns)) (raw_notes owns) (bars_in most_bars b.p firsts b.end) s
            ≡ answer_on (ticks_per_quarter x) (grid (ticks_per_quarter x) (part_notes x k)) (part_notes x k) (bars x) s
        same i =
            answer_on (source.quarter i) (grid (source.quarter i) (raw_notes (opened.own.events i))) (raw_notes (opened.own.events i))
            (bars_are source most_bars i) s
