-- `extract_program` answers the first program change. The loop's invariant: it is that of the words left.
use mathlib.Core.Path.{◌≡◌}
use lib.ListN.{drop}
use Rattle.changes.proofs.ProgramLaws.{program_in}
use Rattle.changes.proofs.extract_program.Given as goal

abbrev pub invariant-loop-w : goal.invariant-loop-w
invariant-loop-w l = program_in (drop l.w-index l.words) ≡ program_in l.words
