-- `put_event` puts the event where its group's test finds it.
use mathlib.Core.Path.{sym, ◌∙◌}
use native.Mathlib.Omega.{arith}
use Rattle.findings.proofs.Putting.{found_none}
use Rattle.event_diagnostics.proofs.Searching.{code_small, one_found, none_found}
use Rattle.event_diagnostics.proofs.put_event.Goals as goal

pub put-requires : goal.put-requires
put-requires c =
    let a = c.args in
    let pre = c.requires in
    rw c.at_event-d.ensures (
      record {
        code = omega (arith, c.code_of.ensures, code_small a.group);
        track = pre.0;
        event = pre.1;
        tick = pre.2;
        channel = omega arith;
        key = omega arith;
      },
      pre.3,
    )

pub returns-then-is_found : goal.returns-then-is_found
returns-then-is_found c =
    let a = c.args in
    rw (one_found a.group a.track (record { number = a.event; tick = a.tick; word = a.word })
    (sym c.is_found.ensures ∙ c.if-is_found.true))
    (rw (c.at_event-d.ensures, c.code_of.ensures) at c.put.ensures)

pub returns-else-is_found : goal.returns-else-is_found
returns-else-is_found c =
    let a = c.args in
    rw (none_found a.group a.track (record { number = a.event; tick = a.tick; word = a.word }) (sym c.is_found.ensures ∙ c.if-is_found.false))
    (found_none _ _ _)
