use mathlib.Core.Path.{sym, ap, ◌∙◌}
use native.Mathlib.Omega.{arith}
use borrow.Author.Tests.{eqb-true}
use Rattle.laws.proofs.Lists.{All-get}
use Rattle.track_events.proofs.Tracks.{meter_bounds}
use Rattle.event_diagnostics.specs.Groups.{meter_length}
use Rattle.event_diagnostics.proofs.Searching.{meter_here, meter_on, meter_none}
use Rattle.event_diagnostics.proofs.first_meter_length.Goals as goal

pub length_of-requires : goal.length_of-requires
length_of-requires c =
    let w = All-get _ c.args.words.now c.loop-w.w-index 0 c.requires.1 (omega arith) in
    (c.requires.0, meter_bounds _ w (eqb-true _ 3 (sym c.is_kind.ensures ∙ c.if-is_kind.true)))

pub returns-then-is_kind : goal.returns-then-is_kind
returns-then-is_kind c =
    let at = c.loop-w in
    let first = sym
    (meter_here c.args.words.now at.w-index (omega arith) (sym c.is_kind.ensures ∙ c.if-is_kind.true))
    ∙ at.invariant in
    c.length_of.ensures ∙ ap (meter_length c.args.p) first

pub loop-w-preserved : goal.loop-w-preserved
loop-w-preserved c =
    let at = c.loop-w in
    sym (meter_on c.args.words.now at.w-index (omega arith) (sym c.is_kind.ensures ∙ c.if-is_kind.false)) ∙ at.invariant

pub returns : goal.returns
returns c =
    let at = c.loop-w in
    let none = sym (meter_none c.args.words.now at.w-index (omega arith)) ∙ at.invariant in
    rw (← none) (omega arith)
