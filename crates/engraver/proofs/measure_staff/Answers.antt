-- `measure_staff`: the staff is counted, and no output is written.
use Rattle.engraver.proofs.Outcomes.{no_room}
use Rattle.engraver.proofs.Tables.{quarter_is, table_is}
use Rattle.engraver.proofs.measure_staff.Goals as goal

pub transcribe_track-s-requires : goal.transcribe_track-s-requires
transcribe_track-s-requires c =
    let pre = c.requires in
    rw c.note_values-values.ensures (table_is _ pre.1, rw (quarter_is _) pre.0, pre.2, pre.3, no_room _ _ _ _ _ _)

pub returns : goal.returns
returns c =
    let size = rw (c.note_values-values.ensures, quarter_is _) at c.transcribe_track-s.ensures in
    rw (size.bars, size.items)
