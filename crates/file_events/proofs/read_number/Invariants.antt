-- `read_number` reads byte by byte. Invariant: reading on with what is left is reading the whole.
use Rattle.file_events.proofs.Laws.{Partly}
use Rattle.file_events.proofs.read_number.Given as goal

abbrev pub invariant-loop-i : goal.invariant-loop-i
invariant-loop-i l = Partly l.bytes l.at l.value l.i
