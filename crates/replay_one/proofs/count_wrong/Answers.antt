-- `replay_one::count_wrong` meets its contract: seven times 1 or 0.
use mathlib.Core.Path.{refl}
use native.Mathlib.Omega.{arith}
use Rattle.replay_one.specs.Comparing.{wrong_of}
use Rattle.replay_one.proofs.count_wrong.Goals as goal

pub returns : goal.returns
unfolding wrong_of
returns c =
    let at_different3 = c.different-3 in
    let at_different2 = c.different-2 in
    let at_different = c.different in record {
      is = rw (
        at_different.ensures.is,
        at_different2.ensures.is,
        at_different3.ensures.is,
        c.different-4.ensures.is,
        c.different-5.ensures.is,
        c.different-6.ensures.is,
        c.different-7.ensures.is,
      ) refl;
      few = omega (
        arith,
        at_different.ensures.few,
        at_different2.ensures.few,
        at_different3.ensures.few,
        c.different-4.ensures.few,
        c.different-5.ensures.few,
        c.different-6.ensures.few,
        c.different-7.ensures.few,
      );
    }
