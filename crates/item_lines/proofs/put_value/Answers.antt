-- `item_lines::put_value` puts voice, code and dots.
use Rattle.item_lines.specs.Items.{value_text}
use Rattle.line_text.proofs.Texts.{adds_both}
use Rattle.item_lines.proofs.put_value.Goals as goal

pub returns : goal.returns
unfolding value_text
returns c =
    rw (c.from.ensures, c.from-2.ensures) at (adds_both (adds_both c.put_decimal-a.ensures c.put_next-b.ensures) c.put_next.ensures)
