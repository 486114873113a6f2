use native.Mathlib.Omega.{arith}
use Rattle.raw_notes.proofs.Closing.{closing_start, closing_waits, ends, closing_more, closing_end}
use Rattle.raw_notes.proofs.close_pending.Goals as goal

pub loop-r-init : goal.loop-r-init
loop-r-init c = λ t x p. closing_start _ p

pub take_pending-u-requires : goal.take_pending-u-requires
take_pending-u-requires c =
    let o = c.requires in
    closing_waits (c.loop-r.invariant o.tails o.x o.pairs) (omega arith)

pub put_note-requires : goal.put_note-requires
put_note-requires c =
    let o = c.requires in
    let p = c.loop-r.invariant o.tails o.x o.pairs in
    let e = ends p (c.take_pending-u.ensures o.tails _ _ p.taking.queues p.taking.later) in
    (e.room, e.area, e.early, o.soon, omega arith, e.channel)

pub loop-r-preserved : goal.loop-r-preserved
loop-r-preserved c =
    λ t x y.
    let p = c.loop-r.invariant t x y in
    closing_more p (c.take_pending-u.ensures t _ _ p.taking.queues p.taking.later) c.put_note.auto.work c.put_note.ensures

pub returns : goal.returns
returns c t x p = closing_end (c.loop-r.invariant t x p) (omega arith)
