-- `read_event` reads a delta, and an event behind it: each way out is a law.
use Rattle.file_events.proofs.Laws.{number_behind, event_late, event_broken, event_read}
use Rattle.file_events.proofs.read_event.Goals as goal

pub returns-in_err-delta : goal.returns-in_err-delta
returns-in_err-delta c = rw c.from_residual.ensures (event_late _ _ _ c.in_err-delta.was c.read_number.ensures)

pub read_message-requires : goal.read_message-requires
read_message-requires c = (c.requires.0, (number_behind _ _ c.in_ok-delta.was c.read_number.ensures).1)

pub returns-in_err-event : goal.returns-in_err-event
returns-in_err-event c =
    rw c.from_residual-in_err-event.ensures
    (event_broken _ _ _ c.in_ok-delta.was c.read_number.ensures c.in_err-event.was c.read_message.ensures)

pub returns : goal.returns
returns c = event_read _ _ _ c.in_ok-delta.was c.read_number.ensures c.in_ok-event.was c.read_message.ensures
