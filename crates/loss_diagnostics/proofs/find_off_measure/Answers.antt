-- `find_off_measure` searches the first track with its first meter's length.
use native.Mathlib.Omega.{arith}
use Rattle.tracks.proofs.Cuts.{span_track}
use Rattle.tracks.proofs.Ranges.{quarter_fits}
use Rattle.loss_diagnostics.proofs.FirstTrack.{first_searchable, off_found}
use Rattle.loss_diagnostics.proofs.find_off_measure.Goals as goal

pub cut-deltas-requires : goal.cut-deltas-requires
cut-deltas-requires c = let span = c.first_track-track.ensures _ _ c.requires.0.sizes in (span.order, span.deltas)

pub cut-words-requires : goal.cut-words-requires
cut-words-requires c = let span = c.first_track-track.ensures _ _ c.requires.0.sizes in (span.order, span.words)

pub first_meter_length-length-requires : goal.first_meter_length-length-requires
first_meter_length-length-requires c =
    let span = c.first_track-track.ensures _ _ c.requires.0.sizes in
    let known = c.requires.0 in
    rw c.cut-words.ensures
    (omega (arith, c.ticks_per_quarter-p.ensures, quarter_fits _ known), (span_track _ known span).formed)

pub find_events-requires : goal.find_events-requires
find_events-requires c =
    let span = c.first_track-track.ensures _ _ c.requires.0.sizes in
    let pre = c.requires in
    rw (c.cut-deltas.ensures, c.cut-words.ensures) (first_searchable _ pre.0 span pre.1)

pub returns : goal.returns
returns c =
    let span = c.first_track-track.ensures _ _ c.requires.0.sizes in
    off_found _ c.requires.0 span c.ticks_per_quarter-p.ensures
    (rw c.cut-words.ensures at c.first_meter_length-length.ensures)
    (rw (c.cut-deltas.ensures, c.cut-words.ensures) at c.find_events.ensures)
