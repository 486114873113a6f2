use mathlib.Core.Path.{refl, ap}
use native.Mathlib.Omega.{arith}
use Rattle.bar_walk.proofs.WalkLaws.{walking_sane, walking_ready}
use Rattle.bar_walk.specs.declared.Walker.{Walker}
use Rattle.proofread_staff.specs.declared.Measured.{Measured}
use Rattle.proofread_staff.proofs.Measuring.{measuring_start, measuring_last, measuring_more, measuring_end, long}
use Rattle.proofread_staff.proofs.measure.Goals as goal

pub first_bar-walker-requires : goal.first_bar-walker-requires
first_bar-walker-requires c = c.requires.0.track

pub loop-init : goal.loop-init
loop-init c = (measuring_start c.first_bar-walker.ensures, refl)

pub next_bar-next-requires : goal.next_bar-next-requires
next_bar-next-requires c = walking_sane c.loop.invariant.0.walking c.requires.0.ticks

pub overflow_sub-next : goal.overflow_sub-next
overflow_sub-next c = omega (arith, ap (λ (w : Walker). w.start) c.next_bar-next.ensures)

pub with_bar-x-requires : goal.with_bar-x-requires
with_bar-x-requires c =
    let q = c.requires in
    (q.2, omega (arith, c.loop.invariant.1, q.1))

pub returns-then-end-next : goal.returns-then-end-next
returns-then-end-next c =
    let next = c.next_bar-next.ensures in
    rw (c.with_bar-x.ensures, next)
    (measuring_last c.loop.invariant.0 (omega (arith, c.loop.invariant.1)) _ (long c.loop.walker) (rw next at c.if-end-next.true))

pub take_changes-walker-requires : goal.take_changes-walker-requires
take_changes-walker-requires c =
    let next = c.next_bar-next.ensures in
    let q = c.requires in
    rw next (walking_ready c.loop.invariant.0.walking q.0.track _ q.0.end_fits (rw next at c.if-end-next.false))

pub loop-preserved : goal.loop-preserved
loop-preserved c =
    let next = c.next_bar-next.ensures in (
      rw (c.with_bar-x.ensures, next)
          (measuring_more c.loop.invariant.0 (omega (arith, c.loop.invariant.1)) _ (long c.loop.walker) c.requires.0.end_fits
          (rw next at c.take_changes-walker.ensures) (rw next at c.if-end-next.false)),
      omega (arith, c.loop.invariant.1, ap (λ (y : Measured). y.bars) c.with_bar-x.ensures),
    )

pub returns : goal.returns
returns c = measuring_end c.loop.invariant.0 (omega (arith, c.loop.invariant.1))
