-- `assign_voices`: sorted notes, their chords, and the chords' voices are the rules' voices.
use native.Mathlib.Omega.{arith}
use Rattle.chords.proofs.GivenNotes.{notes_ready}
use Rattle.voices.proofs.Spreading.{sorted_rise, voices_in}
use Rattle.voices.proofs.assign_voices.Goals as goal

pub snap_notes-requires : goal.snap_notes-requires
snap_notes-requires c =
    let pre = c.requires in
    notes_ready pre.3.stand pre.3.in_range pre.0 pre.1 pre.2

pub gather_chords-m-requires : goal.gather_chords-m-requires
gather_chords-m-requires c =
    let pre = c.requires in
    let sorted = c.snap_notes.ensures in
    let all = pre.3.stand.all in
    let room = pre.3.stand.room in
    (rw sorted.kept pre.0, omega arith, sorted_rise sorted)

pub returns : goal.returns
returns c ns given small =
    voices_in given small c.requires.2 c.snap_notes.ensures c.gather_chords-m.ensures
    c.place_chords.ensures
