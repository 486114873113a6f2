-- `engrave_part`: the part's number, or the staff of its voices, where the outputs have room.
use Rattle.std.proofs.lemmas.Result.{err_from_is_err_and}
use Rattle.opening.proofs.Opening.{cut_deltas, cut_words}
use Rattle.staffs.proofs.Parts.{can_engrave, staff_given, staff_refused, told_room}
use Rattle.staffs.proofs.engrave_part.Goals as goal

pub returns-in_err-voices : goal.returns-in_err-voices
returns-in_err-voices c =
    let p = err_from_is_err_and c.from_residual.result c.from_residual.ensures.1 in
    rw (p.1, p.2) (staff_refused _ (c.in_err-voices.ensures.no_staff _ _ _ _))

pub cut-first_deltas-requires : goal.cut-first_deltas-requires
cut-first_deltas-requires c = cut_deltas c.in_ok-voices.ensures.ready.source.first

pub cut-first_words-requires : goal.cut-first_words-requires
cut-first_words-requires c = cut_words c.in_ok-voices.ensures.ready.source.first

pub write_staff-written-requires : goal.write_staff-written-requires
write_staff-written-requires c = can_engrave c.in_ok-voices.ensures.ready c.cut-first_deltas.ensures c.cut-first_words.ensures

pub returns : goal.returns
returns c =
    rw (c.ok_or.ensures.value, told_room c.write_staff-written.result)
    (staff_given c.in_ok-voices.ensures.ready c.cut-first_deltas.ensures c.cut-first_words.ensures c.write_staff-written.ensures)
