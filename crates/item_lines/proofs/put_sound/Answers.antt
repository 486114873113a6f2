-- `item_lines::put_sound` puts `rest`, or the keys of both words.
use lib.ListN.{take}
use mathlib.Core.List.{[]}
use Rattle.item_lines.specs.Items.{sound_text}
use borrow.Author.Tests.{eq-eqb, ne_eqb}
use native.Mathlib.Omega.{arith}
use Rattle.line_text.proofs.Texts.{adds_most}
use Rattle.item_lines.proofs.Commas.{adds_keys, no_keys}
use Rattle.item_lines.proofs.put_sound.Goals as goal

pub returns-then-head-eq1 : goal.returns-then-head-eq1
unfolding sound_text
returns-then-head-eq1 c = rw (eq-eqb _ _ c.if-head-eq1.true) (adds_most (omega arith) c.put_text.ensures)

pub returns : goal.returns
unfolding sound_text
returns c =
    let a = c.args in
    rw (ne_eqb _ _ c.if-head-eq1.false)
    (adds_keys (omega (arith, c.put_keys-all.ensures.grown, c.put_keys-lower.ensures.grown))
    (c.put_keys-all.ensures.keyed _ _ (c.put_keys-lower.ensures.keyed (take a.at a.out.now) [] (no_keys a.at a.out.now))))
