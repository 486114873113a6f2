-- `loss_diagnostics`: with room for all, all are written.
use Rattle.findings.proofs.Putting.{places_written, details_written}
use Rattle.loss_diagnostics.proofs.loss_diagnostics.Goals as goal

pub returns : goal.returns
returns c =
    let pre = c.requires in
    let all = c.find_all.ensures.found in
    record { places = places_written all pre.1; details = details_written all pre.2 }
