use mathlib.Core.List.{List, ◌++◌}
use mathlib.Core.Path.{◌≡◌, ap, ◌∙◌}
use native.Mathlib.Omega.{arith}
use Prim.Native.Nat.{ℕ, ◌+◌}
use lib.ListN.{length, length-append}
use Rattle.rules.specs.Lists.{keep}
use Rattle.rules.specs.Piece.{is_on}
use Rattle.laws.proofs.Lists.{keep_append}
use Rattle.laws.proofs.Tests.{keep_few}
use Rattle.tracks.proofs.ons.Goals as goal

-- the note-ons of a block and of the words behind it
ons_append : (ws xs ys : List ℕ) → ws ≡ xs ++ ys → length (keep is_on ws) ≡ length (keep is_on xs) + length (keep is_on ys)
ons_append ws xs ys e = rw (e, keep_append) (length-append (keep is_on xs) (keep is_on ys))

pub loop-block-preserved : goal.loop-block-preserved
loop-block-preserved c =
    let here = c.loop-block.invariant in
    let steps = c.in-Some.ensures.steps in
    let long = ap length steps.1.0 ∙ length-append c.in-Some.block.now c.next.new.self.rest.now in
    let ons = ons_append c.loop-block.block-iterator.rest.now c.in-Some.block.now c.next.new.self.rest.now steps.1.0 in
    record {
      size = steps.0 ∙ here.size;
      few = omega (arith, keep_few is_on c.in-Some.block.now);
      count = omega arith;
      can_next = omega arith;
      is_finite = tt;
    }

none_left : (ws : List ℕ) → length ws ≡ 0 → length (keep is_on ws) ≡ 0
none_left ws e = omega (arith, keep_few is_on ws)

pub returns : goal.returns
returns c = let none = none_left c.loop-block.block-iterator.rest.now c.in-None.ensures.steps.1.0 in omega (arith, c.loop-block.invariant.count)
