-- `skip_to_change` moves on to the first event that it does not skip. The loop's invariant: the events up to `at` are skipped.
use Rattle.bar_walk.proofs.SkipLaws.{Skipping}
use Rattle.bar_walk.proofs.Walker.skip_to_change.Given as goal

abbrev pub invariant-loop-at : goal.invariant-loop-at
invariant-loop-at l = Skipping l.deltas l.words l.self l.at l.tick
