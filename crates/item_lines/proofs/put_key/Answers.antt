-- `item_lines::put_key` puts a key, behind a comma unless it is the first.
use native.Mathlib.Omega.{arith}
use Rattle.line_text.proofs.Texts.{adds_both}
use Rattle.item_lines.proofs.Commas.{key_first, key_next}
use Rattle.item_lines.proofs.put_key.Goals as goal

pub returns-then-keys : goal.returns-then-keys
returns-then-keys c =
    record {
      grown = omega (arith, c.put_decimal-at.ensures.grown);
      keyed = λ t ks h. key_first t _ ks _ c.if-keys.true h c.put_decimal-at.ensures;
    }

pub returns : goal.returns
returns c =
    record {
      grown = omega (arith, c.put_decimal-at-2.ensures.grown, c.put-a.ensures.grown);
      keyed = λ t ks h. key_next t _ ks _ c.if-keys.false h (adds_both c.put-a.ensures c.put_decimal-at-2.ensures);
    }
