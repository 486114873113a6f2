-- `proof_read`: the work area is zeroed on every path.
use mathlib.Core.Path.{ap, ◌∙◌}
use lib.ListN.{replicate}
use Rattle.proofread.proofs.proof_read.Goals as goal

pub returns : goal.returns
returns c =
    let kept = c.read_staff-answer.auto.work in
    record { answered = c.read_staff-answer.ensures; work = c.clear.ensures ∙ ap (λ n. replicate n 0) kept }
