-- `push_filled`: the loop's invariant is that the bar is half written.
use Rattle.items.specs.Writing.{quarter}
use Rattle.bar_voice.specs.Voices.{voice_of}
use Rattle.bar_voice.proofs.InBar.{Midbar}
use Rattle.bar_voice.proofs.push_filled.Given as goal

abbrev pub invariant-loop-j : goal.invariant-loop-j
invariant-loop-j l = Midbar l.write (quarter l.values) l.bar.start l.bar.end (voice_of l.n l.work l.v l.len) l.from l.initial.heads l.initial.keys l.heads l.keys l.s l.tick l.j
