-- `read_data` reads a length and tests that as many bytes stand behind it: each way out is a law.
use native.Mathlib.Omega.{arith}
use Rattle.file_events.proofs.Laws.{number_behind, span_broken, span_short, span_whole}
use Rattle.file_events.proofs.read_data.Goals as goal

pub returns-in_err-n : goal.returns-in_err-n
returns-in_err-n c = rw c.from_residual.ensures (span_broken _ _ c.in_err-n.was c.read_number.ensures)

pub overflow_sub-bytes : goal.overflow_sub-bytes
overflow_sub-bytes c = (number_behind _ _ c.in_ok-n.was c.read_number.ensures).1

pub returns-then-bytes-from : goal.returns-then-bytes-from
returns-then-bytes-from c = span_short _ _ c.in_ok-n.was c.read_number.ensures (omega arith)

pub overflow_add-result : goal.overflow_add-result
overflow_add-result c = omega (arith, (number_behind _ _ c.in_ok-n.was c.read_number.ensures).1)

pub returns : goal.returns
returns c = span_whole _ _ c.in_ok-n.was c.read_number.ensures (omega arith)
