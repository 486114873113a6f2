-- `gather` brings the notes' words to the front. The invariant: i of them are there, and the places behind them are as they were.
use Rattle.raw_notes.proofs.Gathering.{Gathering}
use Rattle.raw_notes.proofs.gather.Given as goal

abbrev pub invariant-loop-i : goal.invariant-loop-i
invariant-loop-i l = Gathering l.initial.work l.work l.n l.r l.i
