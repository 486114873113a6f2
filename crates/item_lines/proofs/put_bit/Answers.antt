-- `item_lines::put_bit` puts the key of a bit that is set.
use mathlib.Core.List.{append-nil}
use Rattle.item_lines.specs.Items.{bit_key}
use borrow.Author.Tests.{eq-eqb, ne_eqb}
use native.Mathlib.Omega.{arith}
use Rattle.item_lines.proofs.put_bit.Goals as goal

pub returns-then-word-k-eq1 : goal.returns-then-word-k-eq1
unfolding bit_key
returns-then-word-k-eq1 c =
    record {
      grown = c.put_key.ensures.grown;
      keyed = λ t ks h. rw (eq-eqb _ _ c.if-word-k-eq1.true) (c.put_key.ensures.keyed t ks h);
    }

pub returns : goal.returns
unfolding bit_key
returns c = record { grown = omega arith; keyed = λ t ks h. rw (ne_eqb _ _ c.if-word-k-eq1.false, append-nil) h }
