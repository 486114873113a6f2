-- `track_voices`: raw notes, their grid, and their voices.
use native.Mathlib.Omega.{arith}
use Rattle.raw_notes.proofs.Ready.{notes_ready}
use Rattle.laws.proofs.Grid.{grid_some, grid_small}
use Rattle.staffs.proofs.TrackVoices.{voices_same, voices_held}
use Rattle.staffs.proofs.track_voices.Goals as goal

pub assign_voices-voices-requires : goal.assign_voices-voices-requires
assign_voices-voices-requires c =
    let pre = c.requires in
    let ready = notes_ready pre.track c.collect_raw_notes-count.ensures in
    rw c.grid_ticks-g.ensures (
      omega (arith, pre.area, c.collect_raw_notes-count.auto.work),
      grid_some _ _,
      grid_small _ _ pre.small,
      record { notes = _; stand = ready.0; in_range = ready.1 },
    )

pub returns : goal.returns
returns c =
    let pre = c.requires in
    let ready = notes_ready pre.track c.collect_raw_notes-count.ensures in
    let spread = rw c.grid_ticks-g.ensures at (c.assign_voices-voices.ensures _ ready.0 ready.1) in
    let kept = c.collect_raw_notes-count.auto.work in
    let kept_too = c.assign_voices-voices.auto.work in
    record {
      held = voices_held _ _ spread (omega (arith, pre.area)) (grid_some _ _);
      are = voices_same _ _ spread (omega (arith, pre.area));
    }
