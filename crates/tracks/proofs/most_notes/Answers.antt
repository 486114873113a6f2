use mathlib.Core.Path.{refl}
use native.Mathlib.Omega.{arith}
use Rattle.tracks.proofs.Cuts.{cut_words, most_start, most_more, most_end}
use Rattle.tracks.proofs.most_notes.Goals as goal

pub loop-t-init : goal.loop-t-init
loop-t-init c = most_start c.requires

pub cut-requires : goal.cut-requires
cut-requires c = cut_words c.loop-t.invariant.cut (omega arith) refl

pub loop-t-preserved : goal.loop-t-preserved
loop-t-preserved c =
    let more = rw c.cut.ensures at c.with_track-most.ensures in
    (most_more c.loop-t.invariant (omega arith) more)

pub returns : goal.returns
returns c = most_end c.loop-t.invariant (omega arith)
