-- `find_timecode` puts code 1 where bit 15 of the division is set.
use native.Mathlib.Omega.{arith}
use borrow.Author.Tests.{eq-eqb, ne_eqb}
use Rattle.findings.proofs.Putting.{found_none}
use Rattle.loss_diagnostics.proofs.find_timecode.Goals as goal

pub put-requires : goal.put-requires
put-requires c =
    rw c.at_event.ensures (
      record {
        code = omega arith;
        track = omega arith;
        event = omega arith;
        tick = omega arith;
        channel = omega arith;
        key = omega arith;
      },
      omega arith,
    )

pub returns-then-sizes-eq1 : goal.returns-then-sizes-eq1
returns-then-sizes-eq1 c =
    let found = c.put.ensures in
    rw (eq-eqb _ 1 c.if-sizes-eq1.true)
    (record { found = rw c.at_event.ensures at found; few = omega (arith, found.count) })

pub returns-else-sizes-eq1 : goal.returns-else-sizes-eq1
returns-else-sizes-eq1 c = rw (ne_eqb _ 1 c.if-sizes-eq1.false) (record { found = found_none 0 _ _; few = omega arith })
