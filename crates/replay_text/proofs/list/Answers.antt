use mathlib.Core.Path.{sym, ◌∙◌}
use native.Mathlib.Omega.{arith}
use Rattle.replayed.proofs.Laws.{values_length, values_set}
use Rattle.replay_text.specs.Numbers.{list_at}
use Rattle.replay_text.proofs.Laws.{reading_start, reading_more, reading_end, row_length}
use Rattle.replay_text.proofs.list.Goals as goal

pub loop-i-init : goal.loop-i-init
loop-i-init g c = (c.bounded-n.ensures.within, reading_start _ _ _ _)

pub loop-i-preserved : goal.loop-i-preserved
loop-i-preserved g c =
    let same = g.met.T.Number.one_by_one in
    let here = c.loop-i in
    let room = values_length same c.args.out.now in
    let stored = values_set same here.out here.i _ _ c.from_u64.ensures in
    let read = rw c.MOST.ensures at c.bounded-r.ensures.is in (
      here.invariant.0,
      rw stored (reading_more _ _ _ _ _ here.next here.i _ read (omega arith) (omega (arith, here.invariant.0)) here.invariant.1),
    )

pub returns : goal.returns
unfolding list_at
returns g c =
    let here = c.loop-i in
    let whole = reading_end _ _ _ _ _ here.next here.i (omega arith) here.invariant.1 in
    let first = c.bounded-n.ensures.is in
    let room = values_length g.met.T.Number.one_by_one c.args.out.now in
    record {
      count = rw (sym first) (sym (row_length _ _ _));
      fits = rw (room, ← first, row_length) here.invariant.0;
      next = whole.0 ∙ rw first;
      out = whole.1 ∙ rw first;
    }
