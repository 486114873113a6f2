use mathlib.Core.Path.{refl}
use native.Mathlib.Omega.{arith}
use Rattle.tracks.proofs.Cuts.{cut_deltas, cut_words, cut_track}
use Rattle.ends.proofs.PartEnds.{between_first, between_next, between_end, between_full}
use Rattle.ends.proofs.end_of_piece.Goals as goal

pub loop-i-init : goal.loop-i-init
loop-i-init c = (refl, between_first c.requires)

pub returns-then-s-eq-MOST_PARTS : goal.returns-then-s-eq-MOST_PARTS
returns-then-s-eq-MOST_PARTS c = between_full c.loop-i.invariant.1 c.if-s-eq-MOST_PARTS.true

pub overflow_add-to : goal.overflow_add-to
overflow_add-to c = omega (arith, (cut_deltas c.loop-i.invariant.1.cut (omega arith) refl).1)

pub cut-requires : goal.cut-requires
cut-requires c =
    cut_deltas c.loop-i.invariant.1.cut (omega arith) refl

pub cut-requires-in-loop-i : goal.cut-requires-in-loop-i
cut-requires-in-loop-i c =
    cut_words c.loop-i.invariant.1.cut (omega arith) refl

pub with_track-s-requires : goal.with_track-s-requires
with_track-s-requires c =
    let known = c.requires in
    let inv = c.loop-i.invariant in
    rw (c.cut-in-loop-i.ensures, c.cut.ensures)
    (inv.0, omega (arith, inv.1.few, c.if-s-eq-MOST_PARTS.false), cut_track known inv.1.cut (omega arith))

pub loop-i-preserved : goal.loop-i-preserved
loop-i-preserved c =
    let done = c.with_track-s.ensures in
    rw (done.taken, c.cut-in-loop-i.ensures, c.cut.ensures)
    (done.cleared, between_next c.loop-i.invariant.1 (omega arith) c.if-s-eq-MOST_PARTS.false)

pub returns : goal.returns
returns c = between_end c.loop-i.invariant.1 (omega arith)
