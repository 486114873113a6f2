-- `bar_lines::put_bar_head` puts `bar`, number, start and length.
use mathlib.Core.List.{◌∷◌}
use mathlib.Core.Path.{ap}
use Rattle.line_text.specs.Text.{decimal}
use Rattle.bar_lines.specs.Lines.{bar_head}
use Rattle.line_text.proofs.Texts.{adds_eq, adds_both}
use Rattle.bar_lines.proofs.put_bar_head.Goals as goal

pub returns : goal.returns
unfolding bar_head
returns c =
    (adds_both (adds_both (adds_both c.put_text-a.ensures c.put_decimal-b.ensures) c.put_next-c.ensures)
    (adds_eq (ap (λ l. 32 ∷ decimal l) c.bar_length-length.ensures) c.put_next.ensures))
