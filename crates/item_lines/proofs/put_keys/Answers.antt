use mathlib.Core.Path.{subst}
use Rattle.item_lines.proofs.Commas.{keys_more}
use Rattle.item_lines.specs.Items.{Keyed}
use mathlib.Core.List.{◌++◌, append-nil}
use mathlib.Core.Path.{◌≡◌}
use Rattle.item_lines.specs.Items.{word_keys}
use native.Mathlib.Omega.{arith}
use Rattle.item_lines.proofs.put_keys.Goals as goal

pub loop-k-init : goal.loop-k-init
unfolding word_keys
loop-k-init c = (omega arith, omega arith, λ t ks h. rw append-nil h)

pub loop-k-preserved : goal.loop-k-preserved
loop-k-preserved c =
    let l = c.loop-k in
    let a = c.args in (
      omega arith,
      omega (arith, c.put_bit-spot.ensures.grown),
      λ t ks h. keys_more ks l.k a.word a.base (c.put_bit-spot.ensures.keyed t (ks ++ word_keys l.k a.word a.base) (l.invariant.2 t ks h)),
    )

pub returns : goal.returns
returns c = let l = c.loop-k in
    let a = c.args in
    let e : l.k ≡ 64 = omega arith in
    record {
      grown = omega arith;
      keyed = λ t ks h. subst (λ n. Keyed t (ks ++ word_keys n a.word a.base) l.spot.at l.spot.none l.out) e (l.invariant.2 t ks h);
    }
