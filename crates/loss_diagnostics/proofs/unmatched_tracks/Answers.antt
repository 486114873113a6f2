use mathlib.Core.Path.{refl}
use native.Mathlib.Omega.{arith}
use Rattle.pairing.proofs.Grids.{zeros_grid, zeros_empty}
use Rattle.tracks.proofs.Cuts.{cut_deltas, cut_words}
use Rattle.loss_diagnostics.proofs.Walking.{walking_end, tracking_start, tracking_fresh, tracking_next}
use Rattle.loss_diagnostics.proofs.unmatched_tracks.Goals as goal

pub loop-i-init : goal.loop-i-init
loop-i-init c = tracking_start c.requires.0 zeros_empty zeros_grid

pub cut-requires : goal.cut-requires
cut-requires c = cut_deltas c.loop-i.invariant.walk.cut (omega arith) refl

pub cut-requires-in-loop-i : goal.cut-requires-in-loop-i
cut-requires-in-loop-i c = cut_words c.loop-i.invariant.walk.cut (omega arith) refl

pub unmatched_notes-next-requires : goal.unmatched_notes-next-requires
unmatched_notes-next-requires c =
    let pre = c.requires in
    rw (c.cut.ensures, c.cut-in-loop-i.ensures)
    (tracking_fresh pre.0 pre.1 c.loop-i.invariant (omega arith))

pub loop-i-preserved : goal.loop-i-preserved
loop-i-preserved c =
    let pre = c.requires in
    let found = rw (c.cut.ensures, c.cut-in-loop-i.ensures) at c.unmatched_notes-next.ensures.1 in
    tracking_next pre.0 pre.1 c.loop-i.invariant (omega arith) c.unmatched_notes-next.auto.work
    c.unmatched_notes-next.ensures.0 found

pub returns : goal.returns
returns c =
    walking_end c.requires.0.admitted c.loop-i.invariant.walk (omega arith)
