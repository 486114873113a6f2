-- `line_text::put_next` puts a space and a number.
use Rattle.line_text.proofs.Texts.{adds_both}
use Rattle.line_text.proofs.put_next.Goals as goal

pub returns : goal.returns
returns c = adds_both c.put-a.ensures c.put_decimal.ensures
