-- `ends::step` meets its contract: a note word names a channel below 16 and a key below 128, and each way out is a case of `step`.
use mathlib.Core.Logic.{inl, inr}
use mathlib.Core.Path.{sym, ◌∙◌}
use native.Mathlib.Omega.{arith}
use Rattle.track_events.proofs.Tracks.{note_bounds}
use Rattle.ends.proofs.Passes.{step_on_lem, step_off, step_over}
use Rattle.ends.proofs.step.Goals as goal

pub begin-requires : goal.begin-requires
begin-requires c =
    let given = c.requires in
    let w = c.take_apart-w.ensures in
    let b = note_bounds _ given.1 (inl (sym c.is_on.ensures ∙ c.if-is_on.true)) in
    (omega (arith, w.a, b.channel), omega (arith, w.b, b.first), omega arith, given.2)

pub returns-then-is_on : goal.returns-then-is_on
returns-then-is_on c =
    let w = c.take_apart-w.ensures in
    rw (c.begin.ensures, w.a, w.b, c.from.ensures) (sym (step_on_lem _ _ _ (sym c.is_on.ensures ∙ c.if-is_on.true)))

pub finish-requires : goal.finish-requires
finish-requires c =
    let given = c.requires in
    let w = c.take_apart-w.ensures in
    let b = note_bounds _ given.1 (inr (sym c.is_off.ensures ∙ c.if-is_off.true)) in
    (omega (arith, w.a, b.channel), omega (arith, w.b, b.first), given.2)

pub returns-then-is_off : goal.returns-then-is_off
returns-then-is_off c =
    let w = c.take_apart-w.ensures in
    rw (c.finish.ensures, w.a, w.b, c.from.ensures) (sym (step_off _ _ _ (sym c.is_on.ensures ∙ c.if-is_on.false) (sym c.is_off.ensures ∙ c.if-is_off.true)))

pub returns : goal.returns
returns c = rw c.from.ensures (sym (step_over _ _ _ (sym c.is_on.ensures ∙ c.if-is_on.false) (sym c.is_off.ensures ∙ c.if-is_off.false)))
