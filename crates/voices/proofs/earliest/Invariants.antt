-- `earliest` finds the earliest end. The invariant: of the first v ends, the one at best is the first of the lowest.
use Rattle.std.proofs.Common.{nat_lt}
use Rattle.std.specs.List.{IsFirstBest}
use Rattle.voices.proofs.earliest.Given as goal

abbrev pub invariant-loop-v : goal.invariant-loop-v
invariant-loop-v l = IsFirstBest nat_lt l.ends l.v l.best
