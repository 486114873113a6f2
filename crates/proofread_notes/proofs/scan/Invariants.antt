-- `scan` takes the notes of the chord's start. The loop's invariant: what is known of the first i notes, and their marks.
use Rattle.proofread_notes.proofs.Scanning.{Scanning}
use Rattle.proofread_notes.proofs.scan.Given as goal

abbrev pub invariant-loop-i : goal.invariant-loop-i
invariant-loop-i l = Scanning l.g l.n l.m l.c l.from l.initial.work l.work l.i l.x
