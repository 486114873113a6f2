-- `pair_event` goes one event on: each return is one case of the pairing's step.
use mathlib.Core.Logic.{inl, inr}
use mathlib.Core.Path.{refl, sym, ◌∙◌}
use native.Mathlib.Omega.{arith}
use Rattle.track_events.proofs.Tracks.{note_bounds}
use Rattle.pairing.proofs.Chains.{queue_empty}
use Rattle.pairing.proofs.Outcomes.{stepped_on, stepped_other, stepped_unmatched, stepped_closed}
use Rattle.pairing.proofs.pair_event.Goals as goal

pub push-requires : goal.push-requires
push-requires c =
    let p = c.requires in
    let on = sym c.is_on.ensures ∙ c.if-is_on.true in
    let b = note_bounds _ p.formed (inl on) in
    let a = c.take_apart-x.ensures in
    record {
      channel = omega (arith, b.channel, a.a);
      key = omega (arith, b.first, a.b);
      room = p.room on;
      small = p.small;
      held = p.held;
    }

pub returns-then-is_on : goal.returns-then-is_on
returns-then-is_on c x q =
    let on = sym c.is_on.ensures ∙ c.if-is_on.true in
    let a = c.take_apart-x.ensures in
    stepped_on on
    (c.push.ensures x.pending _ q
    (record {
      channel = sym (a.a);
      key = sym (a.b);
      tick = refl;
      number = refl;
    }))

pub bounds-heads-c : goal.bounds-heads-c
bounds-heads-c c =
    let b = note_bounds _ c.requires.formed (inr (sym c.is_off.ensures ∙ c.if-is_off.true)) in
    let a = c.take_apart-x.ensures in
    omega (arith, b.channel, a.a)

pub bounds-heads-k : goal.bounds-heads-k
bounds-heads-k c =
    let b = note_bounds _ c.requires.formed (inr (sym c.is_off.ensures ∙ c.if-is_off.true)) in
    let a = c.take_apart-x.ensures in
    omega (arith, b.first, a.b)

pub returns-then-heads-c-eq0 : goal.returns-then-heads-c-eq0
returns-then-heads-c-eq0 c x q =
    let on = sym c.is_on.ensures ∙ c.if-is_on.false in
    let off = sym c.is_off.ensures ∙ c.if-is_off.true in
    let a = c.take_apart-x.ensures in
    let b = note_bounds _ c.requires.formed (inr off) in
    stepped_unmatched on off
    (queue_empty _ _ b.channel b.first
    (rw (a.a, a.b) at c.if-heads-c-eq0.true) q)
    q

pub pop-requires : goal.pop-requires
pop-requires c =
    let p = c.requires.held in
    let b = note_bounds _ c.requires.formed (inr (sym c.is_off.ensures ∙ c.if-is_off.true)) in
    let a = c.take_apart-x.ensures in
    record {
      tails = _;
      count = _;
      pending = p.pending;
      queues = p.queues;
      channel = omega (arith, b.channel, a.a);
      key = omega (arith, b.first, a.b);
      full = omega arith;
    }

pub returns-then-is_off : goal.returns-then-is_off
returns-then-is_off c x q =
    let on = sym c.is_on.ensures ∙ c.if-is_on.false in
    let off = sym c.is_off.ensures ∙ c.if-is_off.true in
    let a = c.take_apart-x.ensures in
    stepped_closed on off (rw (a.a, a.b) at (c.pop.ensures _ _ _ q))

pub returns : goal.returns
returns c x q =
    stepped_other (sym c.is_on.ensures ∙ c.if-is_on.false) (sym c.is_off.ensures ∙ c.if-is_off.false) q
