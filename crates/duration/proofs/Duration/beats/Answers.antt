use mathlib.Core.Path.{◌≡◌}
use native.Mathlib.Omega.{arith}
use lib.Ieee.{of_bits}
use Rattle.rules.specs.Values.{beats256}
use Rattle.duration.specs.Calls.{code_of}
use Rattle.duration.proofs.Laws.{summed_none, summed_on, base_exact, beats_small, given_beats, refused_beats}
use Rattle.duration.proofs.Duration.beats.Goals as goal

pub returns-then-dots-gt-MOST_DOTS : goal.returns-then-dots-gt-MOST_DOTS
returns-then-dots-gt-MOST_DOTS c = refused_beats c.args.self c.args.dots c.if-dots-gt-MOST_DOTS.true

pub loop-init : goal.loop-init
unfolding of_bits
loop-init c = (omega arith, λ n h v. summed_none n _ h v)

pub loop-preserved : goal.loop-preserved
unfolding of_bits
loop-preserved c =
    let here = c.loop in
    (omega arith, λ n h v. summed_on n here.counter here.total here.dot h (omega arith) (here.invariant.1 n h v))

pub returns : goal.returns
unfolding of_bits
returns c =
    let here = c.loop in
    let call = c.as_fraction-f in
    let e : here.counter ≡ c.args.dots = omega arith in
    let base = base_exact c.args.self call.result call.ensures.value in
    given_beats c.args.self c.args.dots here.total here.dot (omega arith)
    (rw e at (here.invariant.1 (beats256 (code_of c.args.self) 0) (beats_small c.args.self) base))
