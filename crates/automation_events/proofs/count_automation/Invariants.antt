-- For each list, what is counted and what is left make up the whole.
use Rattle.automation_events.proofs.CountLaws.{Counting}
use Rattle.automation_events.proofs.count_automation.Given as goal

abbrev pub invariant-loop-word : goal.invariant-loop-word
invariant-loop-word l = Counting l.words l.dropped l.word-index l.counts
