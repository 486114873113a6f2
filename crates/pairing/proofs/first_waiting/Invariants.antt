-- `first_waiting` finds the first queue that is not empty. The invariant: those from `from` up to q are empty.
use Rattle.pairing.proofs.Firsts.{Scanned}
use Rattle.pairing.proofs.first_waiting.Given as goal

abbrev pub invariant-loop-q : goal.invariant-loop-q
invariant-loop-q l = Scanned l.heads l.from l.q
