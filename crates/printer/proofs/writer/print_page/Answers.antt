use mathlib.Core.Path.{refl, sym, ◌∙◌}
use native.Mathlib.Omega.{arith}
use Rattle.printer.proofs.writer.print_page.Goals as goal

pub loop-at-init : goal.loop-at-init
loop-at-init c =
    (refl, refl, refl, refl, refl, c.requires.ready)

pub turn-at-requires : goal.turn-at-requires
turn-at-requires c =
    let i = c.loop-at.invariant in
    let r = c.requires.rooms in record {
      ready = rw (i.1, i.3) i.5;
      rooms = record {
        counts = omega (arith, r.counts, i.0);
        keys = omega (arith, r.keys, i.1, i.2);
        starts = r.starts;
        marks = r.marks;
      };
      in_bounds = omega (arith, c.requires.in_bounds, i.4);
    }

pub loop-at-smaller : goal.loop-at-smaller
loop-at-smaller c =
    c.turn-at.ensures.less (sym c.goes_on.ensures ∙ c.loop-at-test.true)

pub loop-at-preserved : goal.loop-at-preserved
loop-at-preserved c =
    let i = c.loop-at.invariant in
    (omega arith, omega arith, omega arith, omega arith, omega arith, rw (i.1, i.3) at c.turn-at.ensures.ready)
