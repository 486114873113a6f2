-- `engrave`: the work area is zeroed on every path.
use mathlib.Core.Path.{ap, ◌∙◌}
use lib.ListN.{replicate}
use Rattle.staffs.proofs.Parts.{staff_called}
use Rattle.staffs.proofs.engrave.Goals as goal

pub returns : goal.returns
returns c =
    let kept = c.engrave_part-answer.auto.work in
    staff_called (c.clear.ensures ∙ ap (λ n. replicate n 0) kept) c.engrave_part-answer.ensures
