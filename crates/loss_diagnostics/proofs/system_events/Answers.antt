use mathlib.Core.Path.{refl}
use native.Mathlib.Omega.{arith}
use Rattle.tracks.proofs.Cuts.{cut_deltas, cut_words}
use Rattle.loss_diagnostics.proofs.Walking.{walking_start, walking_searchable, walking_next, walking_end}
use Rattle.loss_diagnostics.proofs.system_events.Goals as goal

pub loop-i-init : goal.loop-i-init
loop-i-init c = walking_start c.requires.0.sizes

pub cut-requires : goal.cut-requires
cut-requires c = cut_deltas c.loop-i.invariant.cut (omega arith) refl

pub cut-requires-in-loop-i : goal.cut-requires-in-loop-i
cut-requires-in-loop-i c = cut_words c.loop-i.invariant.cut (omega arith) refl

pub find_events-next-requires : goal.find_events-next-requires
find_events-next-requires c =
    let pre = c.requires in
    rw (c.cut.ensures, c.cut-in-loop-i.ensures)
    (walking_searchable pre.0 c.loop-i.invariant (omega arith) pre.1)

pub loop-i-preserved : goal.loop-i-preserved
loop-i-preserved c =
    let found = rw (c.cut.ensures, c.cut-in-loop-i.ensures) at c.find_events-next.ensures in
    walking_next c.requires.0 c.loop-i.invariant (omega arith) found

pub returns : goal.returns
returns c = walking_end c.requires.0 c.loop-i.invariant (omega arith)
