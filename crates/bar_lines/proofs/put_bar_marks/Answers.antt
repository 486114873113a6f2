-- `bar_lines::put_bar_marks` puts meter, tempo and key, each behind a space.
use Rattle.bar_lines.specs.Lines.{bar_marks}
use Rattle.line_text.proofs.Texts.{adds_both}
use Rattle.bar_lines.proofs.put_bar_marks.Goals as goal

pub returns : goal.returns
unfolding bar_marks
returns c =
    (adds_both
    (adds_both
    (adds_both (adds_both c.put-a.ensures c.put_meter-b.ensures)
    (adds_both c.put-c.ensures c.put_tempo-d.ensures))
    (adds_both c.put-e.ensures c.put_signature-f.ensures))
    c.put.ensures)
