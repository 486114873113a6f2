use native.Mathlib.Omega.{arith}
use Rattle.proofread_notes.proofs.Areas.{readable_same}
use Rattle.proofread_items.proofs.Reading.{reading_start, reading_more}
use Rattle.proofread_items.proofs.Reading.{reading_failed, arrays_start, arrays_next, arrays_end}
use Rattle.proofread_items.proofs.take_items.Goals as goal

pub loop-i-init : goal.loop-i-init
loop-i-init c =
    let a = c.args in (
      arrays_start a.heads.now a.keys.now a.first a.count
          (reading_start c.requires.1),
      omega arith,
    )

pub take_item-requires : goal.take_item-requires
take_item-requires c =
    let l = c.loop-i in
    let q = c.requires in
    (readable_same l.invariant.0.area q.0, l.invariant.0.paced, q.2, c.item_of-item.ensures.1, omega (arith, l.invariant.1, q.3, q.4))

pub returns-in_err-r : goal.returns-in_err-r
returns-in_err-r c =
    let a = c.args in
    let l = c.loop-i in
    rw c.from_residual.ensures
    (reading_failed c.item_of-item.result c.requires.0.room
    (arrays_next a.heads.now a.keys.now a.first a.count c.item_of-item.result (omega arith)
    c.requires.5 c.requires.6 c.item_of-item.ensures.0 l.invariant.0)
    c.in_err-r.ensures)

pub loop-i-preserved : goal.loop-i-preserved
loop-i-preserved c =
    let a = c.args in
    let l = c.loop-i in (
      reading_more c.item_of-item.result c.requires.0.room
          (arrays_next a.heads.now a.keys.now a.first a.count c.item_of-item.result (omega arith)
          c.requires.5 c.requires.6 c.item_of-item.ensures.0 l.invariant.0)
          c.in_ok-r.ensures,
      omega (arith, l.invariant.1, c.in_ok-r.ensures.short),
    )

pub returns : goal.returns
returns c =
    let a = c.args in
    arrays_end a.heads.now a.keys.now a.first a.count (omega arith) c.loop-i.invariant.0
