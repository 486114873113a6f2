-- `diagnostics` meets its contract: the work area is zeroed on every path.
use mathlib.Core.Path.{ap, ◌∙◌}
use lib.ListN.{replicate}
use Rattle.diagnostics.proofs.DiagnosticsOutcomes.{work_zeroed}
use Rattle.diagnostics.proofs.diagnostics.Goals as goal

pub returns : goal.returns
returns c =
    let kept = c.write_diagnostics-answer.auto.work in
    work_zeroed c.write_diagnostics-answer.ensures (c.clear.ensures ∙ ap (λ n. replicate n 0) kept)
