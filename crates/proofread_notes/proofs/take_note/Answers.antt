-- `take_note` takes one note into the group, and marks it where the chord has its key.
use Rattle.proofread_notes.proofs.Scanning.{took_marked, took_left}
use Rattle.proofread_notes.proofs.take_note.Goals as goal

pub returns-then-has_key : goal.returns-then-has_key
returns-then-has_key c =
    let a = c.args in
    took_marked a.g a.n a.i _ a.c a.work.now c.end_of-end.ensures c.with_note-r.ensures
    c.has_key.ensures c.if-has_key.true

pub returns : goal.returns
returns c =
    let a = c.args in
    took_left a.g a.n a.i _ a.c a.work.now c.end_of-end.ensures c.with_note-r.ensures
    c.has_key.ensures c.if-has_key.false
