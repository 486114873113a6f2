use Prim.Native.Nat.{◌+◌, ◌≤◌}
use native.Mathlib.Omega.{arith}
use lib.ListN.{get_or}
use Rattle.rules.specs.Piece.{Event}
use Rattle.event_diagnostics.proofs.Searching.{searching_start, searching_more, searched, tick_below, one_at_most}
use Rattle.event_diagnostics.proofs.find_events.Goals as goal

pub loop-i-init : goal.loop-i-init
loop-i-init c = searching_start

pub overflow_add-tick : goal.overflow_add-tick
overflow_add-tick c =
    omega (arith, c.from-tick.ensures, tick_below c.requires c.loop-i.invariant (omega arith))

pub put_event-next-requires : goal.put_event-next-requires
put_event-next-requires c =
    let pre = c.requires in
    let inv = c.loop-i.invariant in
    let soon = tick_below pre inv (omega arith) in
    (pre.numbered, omega (arith, pre.room), omega (arith, c.from-tick.ensures), omega (arith, inv.few, pre.room))

pub loop-i-preserved : goal.loop-i-preserved
loop-i-preserved c =
    let at = c.loop-i in
    let e : Event = record { number = at.i; tick = at.tick + c.from-tick.result; word = get_or c.args.words.now at.i 0 } in
    let few = one_at_most c.args.group c.args.track e in
    let found = c.put_event-next.ensures in
    let step : c.put_event-next.result ≤ at.next + 1 = omega (arith, found.count) in
    rw c.from-tick.ensures (searching_more c.requires at.invariant (omega arith) (rw c.from-tick.ensures at found) step)

pub returns : goal.returns
returns c = searched c.requires c.loop-i.invariant (omega arith)
