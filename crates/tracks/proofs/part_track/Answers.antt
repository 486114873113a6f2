use mathlib.Core.Path.{refl}
use native.Mathlib.Omega.{arith}
use Rattle.tracks.proofs.Cuts.{cut_words, seek_start, seek_here, seek_skip, seek_past, seek_end}
use Rattle.tracks.proofs.part_track.Goals as goal
use Rattle.tracks.proofs.part_track.Goals.{then-has_notes+else-before-eq0, else-has_notes}

pub loop-i-init : goal.loop-i-init
loop-i-init c = seek_start c.requires.0 c.requires.1

pub cut-requires : goal.cut-requires
cut-requires c = cut_words c.loop-i.invariant.cut (omega arith) refl

pub returns-then-before-eq0 : goal.returns-then-before-eq0
returns-then-before-eq0 c =
    let notes = rw c.cut.ensures at c.has_notes.ensures in
    (seek_here c.loop-i.invariant (omega arith) notes c.if-has_notes.true c.if-before-eq0.true)

pub loop-i-preserved : goal.loop-i-preserved
loop-i-preserved c =
    let notes = rw c.cut.ensures at c.has_notes.ensures in
    elim c.if-has_notes.branch [
      | then-has_notes+else-before-eq0 w ↦ rw w.before-is (seek_past c.loop-i.invariant (omega arith) notes w.if-has_notes.true (omega (arith, w.if-before-eq0.false)))
      | else-has_notes w ↦ rw w.before-is (seek_skip c.loop-i.invariant (omega arith) notes w.if-has_notes.false)
    ]

pub returns : goal.returns
returns c = absurd (seek_end c.loop-i.invariant (omega arith))
