use mathlib.Core.Path.{refl, ◌∙◌}
use native.Mathlib.Omega.{arith}
use lib.ListN.{length}
use Rattle.file_events.proofs.Laws.{something, nothing}
use Rattle.file_tracks.proofs.Laws.{progress_start, progress_broken, progress_short, progress_more, progress_end, grown_ended}
use Rattle.file_tracks.proofs.read_track.Goals as goal

pub loop-at-init : goal.loop-at-init
loop-at-init c =
    let a = c.args in
    (omega arith, tt, refl, refl, omega arith, omega arith, refl, λ ds ws es h. progress_start a.body.now es a.gathered ds ws _ _ h)

pub read_event-requires : goal.read_event-requires
read_event-requires c = (c.loop-at.invariant.1, omega arith)

pub returns-in_err-timed : goal.returns-in_err-timed
returns-in_err-timed c =
    rw c.from_residual.ensures (record {
      grown = tt;
      held = λ ds ws es h. progress_broken _ es _ _ _ ds ws _ _ (c.loop-at.invariant.7 ds ws es h) _ _
          (nothing _ c.in_err-timed.was c.read_event.ensures);
    })

pub put_event-g-requires : goal.put_event-g-requires
put_event-g-requires c =
    omega (arith, c.loop-at.invariant.4, c.loop-at-test.true)

pub returns-then-event : goal.returns-then-event
returns-then-event c =
    let a = c.args in
    let (e, is, read) = something _ c.in_ok-timed.was c.read_event.ensures in
    let count = c.put_event-g.ensures.counts in
    rw c.then_some.ensures (record {
      grown = grown_ended _ a.gathered c.put_event-g.result (length a.body.now) (omega (arith, count.0, c.loop-at.invariant.5))
          (omega (arith, count.0, c.loop-at.invariant.4, read.behind.ahead, read.behind.within)) (count.1 ∙ c.loop-at.invariant.6);
      held = λ ds ws es h.
          progress_end a.body.now es _ _ _ ds ws _ _ (c.loop-at.invariant.7 ds ws es h) e _ _ _ _ is read
          (λ fs held. c.put_event-g.ensures.held _ _ e ds ws fs read held) c.if-event.true;
    })

pub loop-at-smaller : goal.loop-at-smaller
loop-at-smaller c =
    let (e, is, read) = something _ c.in_ok-timed.was c.read_event.ensures in
    omega (arith, read.behind.ahead, read.behind.within)

pub loop-at-preserved : goal.loop-at-preserved
loop-at-preserved c =
    let (e, is, read) = something _ c.in_ok-timed.was c.read_event.ensures in
    let count = c.put_event-g.ensures.counts in
    let k = c.put_event-g.auto in (
      read.behind.within,
      read.status,
      k.deltas ∙ c.loop-at.invariant.2,
      k.words ∙ c.loop-at.invariant.3,
      omega (arith, count.0, c.loop-at.invariant.4, read.behind.ahead),
      omega (arith, count.0, c.loop-at.invariant.5),
      count.1 ∙ c.loop-at.invariant.6,
      λ ds ws es h.
          progress_more _ es _ _ _ ds ws _ _ (c.loop-at.invariant.7 ds ws es h) e _ _ _ _ is read
          (λ fs held. c.put_event-g.ensures.held _ _ e ds ws fs read held) c.if-event.false,
    )

pub returns : goal.returns
returns c =
    record { grown = tt; held = λ ds ws es h. progress_short _ es _ _ _ ds ws _ _ (c.loop-at.invariant.7 ds ws es h) _ _ (omega (arith, c.loop-at-test.false)) }
