-- `read_voice` goes along the bars. The loop's invariant: the walk is at a bar, the counts before it are summed, and what is still to be heard
-- is the voice.
use Rattle.proofread_voices.proofs.Walks.{Along}
use Rattle.proofread_voices.proofs.read_voice.Given as goal

abbrev pub invariant-loop-bar : goal.invariant-loop-bar
invariant-loop-bar l = Along l.deltas l.words l.p l.end l.max_bars l.counts l.heads l.keys l.g l.n l.m l.e l.v l.initial.work l.walker l.bar l.first l.work l.voice
