-- `item_lines::put_ties` puts the letters of the ties.
use Rattle.item_lines.specs.Items.{ties_text}
use Rattle.line_text.proofs.Texts.{adds_both}
use Rattle.item_lines.proofs.put_ties.Goals as goal

pub returns : goal.returns
unfolding ties_text
returns c =
    (adds_both (adds_both (adds_both c.put-a.ensures c.put_letter-b.ensures) c.put_letter-c.ensures)
    c.put.ensures)
