use mathlib.Core.Path.{refl, sym, ◌∙◌}
use native.Mathlib.Omega.{arith}
use Rattle.track_events.proofs.Tracks.{formed_at}
use Rattle.bar_walk.proofs.StepLaws.{walk_settled, coming_late, coming_none}
use Rattle.bar_walk.proofs.SkipLaws.{ready_one, ready_on, skipped_some}
use Rattle.bar_walk.proofs.Walker.take_changes.Goals as goal

pub loop-w-init : goal.loop-w-init
loop-w-init c = (c.requires, record { p = refl; start = refl; upper = refl; lower = refl })

pub overflow_add-w : goal.overflow_add-w
overflow_add-w c =
    omega (arith, c.loop-w.invariant.0.taking.reached, c.loop-w.invariant.0.start)

pub returns-then-w-delta : goal.returns-then-w-delta
returns-then-w-delta c =
    let (ready, same) = c.loop-w.invariant in
    let late = coming_late ready.track ready.taking c.loop-w-test.true c.if-w-delta.true in
    record { bar = walk_settled ready.track ready.taking late; same = same }

pub bounds-words-at : goal.bounds-words-at
bounds-words-at c = omega (arith, c.loop-w.invariant.0.track.same)

pub bounds-words-at-then-is_change : goal.bounds-words-at-then-is_change
bounds-words-at-then-is_change c = omega (arith, c.loop-w.invariant.0.track.same)

pub take_one-w-requires : goal.take_one-w-requires
take_one-w-requires c =
    let at = c.loop-w in
    let ready = at.invariant.0 in
    record {
      tick = omega (arith, ready.taking.reached, ready.start);
      at = omega (arith, ready.track.few);
      formed = formed_at ready.track at.w.at c.loop-w-test.true;
    }

pub loop-w-smaller-then-is_change : goal.loop-w-smaller-then-is_change
loop-w-smaller-then-is_change c = rw c.take_one-w.ensures (omega arith)

pub loop-w-preserved-then-is_change : goal.loop-w-preserved-then-is_change
loop-w-preserved-then-is_change c =
    let (ready, same) = c.loop-w.invariant in
    ready_one ready c.loop-w-test.true c.if-w-delta.false same c.take_one-w.ensures

pub skip_to_change-w-requires : goal.skip_to_change-w-requires
skip_to_change-w-requires c = c.loop-w.invariant.0

pub loop-w-smaller : goal.loop-w-smaller
loop-w-smaller c =
    let none = sym c.is_change.ensures ∙ c.if-is_change.false in
    omega (arith, skipped_some c.loop-w.invariant.0 c.loop-w-test.true c.if-w-delta.false none c.skip_to_change-w.ensures)

pub loop-w-preserved : goal.loop-w-preserved
loop-w-preserved c =
    let (ready, same) = c.loop-w.invariant in
    ready_on ready c.loop-w-test.true c.if-w-delta.false same c.skip_to_change-w.ensures

pub returns : goal.returns
returns c =
    let (ready, same) = c.loop-w.invariant in
    record { bar = walk_settled ready.track ready.taking (coming_none ready.taking c.loop-w-test.false); same = same }
