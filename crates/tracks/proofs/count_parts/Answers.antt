use mathlib.Core.Path.{refl}
use native.Mathlib.Omega.{arith}
use Rattle.tracks.proofs.Cuts.{cut_words, parts_start, parts_full, parts_more, parts_same, parts_end}
use Rattle.tracks.proofs.count_parts.Goals as goal
use Rattle.tracks.proofs.count_parts.Goals.{then-has_notes, else-has_notes}

pub loop-i-init : goal.loop-i-init
loop-i-init c = parts_start c.requires

pub returns-then-n-eq-MOST_PARTS : goal.returns-then-n-eq-MOST_PARTS
returns-then-n-eq-MOST_PARTS c = parts_full c.loop-i.invariant c.if-n-eq-MOST_PARTS.true

pub cut-requires : goal.cut-requires
cut-requires c = cut_words c.loop-i.invariant.cut (omega arith) refl

pub loop-i-preserved : goal.loop-i-preserved
loop-i-preserved c =
    let inv = c.loop-i.invariant in
    let some = rw c.cut.ensures at c.has_notes.ensures in
    elim c.if-has_notes.branch [
      | then-has_notes w ↦ rw w.n-is (parts_more inv (omega arith) some w.if-has_notes.true c.if-n-eq-MOST_PARTS.false)
      | else-has_notes w ↦ rw w.n-is (parts_same inv (omega arith) some w.if-has_notes.false)
    ]

pub returns : goal.returns
returns c = parts_end c.loop-i.invariant (omega arith)
