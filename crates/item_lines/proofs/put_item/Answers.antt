-- `item_lines::put_item` puts an item's line: its parts one behind another.
use native.Mathlib.Omega.{arith}
use Rattle.line_text.proofs.Texts.{adds_both, adds_most}
use Rattle.item_lines.proofs.put_item.Goals as goal

pub returns : goal.returns
returns c =
    adds_most (omega arith)
    (adds_both (adds_both (adds_both c.put_value-a.ensures c.put_ties-b.ensures) c.put_sound-c.ensures)
    c.put_item_end.ensures)
