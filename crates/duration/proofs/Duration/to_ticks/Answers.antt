use mathlib.Core.Path.{sym, ap, ◌∙◌}
use native.Mathlib.Omega.{arith}
use Rattle.rules.specs.Refusals.{given}
use Rattle.rules.specs.Values.{dotted, ticks_of, ticks480}
use Rattle.duration.specs.Calls.{code_of}
use Rattle.duration.proofs.Laws.{halves_on, halves_none, halves_all, base_ticks, base_small, num_small, passed, stopped}
use Rattle.duration.proofs.Duration.to_ticks.Goals as goal

pub returns-then-dots-gt-MOST_DOTS : goal.returns-then-dots-gt-MOST_DOTS
returns-then-dots-gt-MOST_DOTS c = sym (stopped (ticks480 (code_of c.args.self) c.args.dots) c.args.self c.args.dots (omega arith))

pub overflow_mul-base-2 : goal.overflow_mul-base-2
overflow_mul-base-2 c = omega (arith, num_small c.args.self c.as_fraction-f.result c.as_fraction-f.ensures.value)

pub loop-init : goal.loop-init
loop-init c =
    let d = c.args.self in
    rw (base_ticks d c.as_fraction-f.result c.as_fraction-f.ensures.value)
    (omega arith, omega (arith, base_small d), omega (arith, base_small d), halves_all c.args.dots (ticks_of 480 (code_of d) 0))

pub loop-preserved : goal.loop-preserved
loop-preserved c =
    let here = c.loop in
    let n = c.args.dots in
    (omega arith, omega arith, omega arith, omega (arith, halves_on n here.counter here.dot c.loop-test.true))

pub returns : goal.returns
returns c =
    let here = c.loop in
    let call = c.as_fraction-f in
    ap given (omega (arith, halves_none c.args.dots here.counter here.dot c.loop-test.false)
    ∙ ap (dotted c.args.dots) (base_ticks c.args.self call.result call.ensures.value))
    ∙ sym (passed _ c.args.self c.args.dots (omega arith))
