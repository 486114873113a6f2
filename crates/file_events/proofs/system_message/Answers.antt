-- `system_message` passes over its data: each way out is a law.
use Rattle.file_events.proofs.Laws.{system_broken, system_read}
use Rattle.file_events.proofs.system_message.Goals as goal

pub returns-in_err-span : goal.returns-in_err-span
returns-in_err-span c = rw c.from_residual.ensures (system_broken _ _ _ c.in_err-span.was c.read_data.ensures)

pub returns : goal.returns
returns c = system_read _ _ _ c.in_ok-span.was c.read_data.ensures
