-- `close_pending` closes the starts still pending. The invariant: the notes so far, then those of the starts left by channel, are all notes.
use Rattle.raw_notes.proofs.Closing.{Reach}
use Rattle.raw_notes.proofs.close_pending.Given as goal

abbrev pub invariant-loop-r : goal.invariant-loop-r
invariant-loop-r l = Reach l.initial.heads l.initial.work l.n l.m l.notes l.last l.heads l.work l.r l.from
