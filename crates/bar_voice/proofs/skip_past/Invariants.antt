-- `skip_past`: the chords before j are over.
use Rattle.bar_voice.specs.Voices.{voice_of, Past}
use Rattle.bar_voice.proofs.skip_past.Given as goal

abbrev pub invariant-loop-j : goal.invariant-loop-j
invariant-loop-j l = Past l.tick (voice_of l.n l.work l.v l.len) l.j
