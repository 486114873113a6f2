-- `line_text::put_decimal` puts a number in decimal: the digits that `io::decimal` makes are the definition's.
use Prim.Native.Nat.{◌≤◌}
use lib.ListN.{take}
use mathlib.Core.List.{◌++◌}
use mathlib.Core.Path.{ap, ◌∙◌}
use native.Mathlib.Omega.{arith}
use Rattle.line_text.proofs.Texts.{most_digits, digits_decimal}
use Rattle.line_text.proofs.put_decimal.Goals as goal

pub put_text-requires : goal.put_text-requires
put_text-requires c = let k : c.decimal-k.result ≤ 20 = most_digits _ _ c.decimal-k.ensures.len (omega arith) in
    omega (arith, c.decimal-k.ensures.in_bounds.1)

pub returns : goal.returns
returns c =
    let d = c.decimal-k in
    let a = c.args in
    let k : d.result ≤ 20 = most_digits _ _ d.ensures.len (omega arith) in
    record {
      text =
          c.put_text.ensures.text
          ∙ ap (λ t. take a.at a.out.now ++ t) (d.ensures.digits ∙ digits_decimal a.n d.result (omega arith) d.ensures.len);
      grown = omega (arith, c.put_text.ensures.grown, d.ensures.in_bounds.1);
    }
