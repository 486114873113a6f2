-- `automation` meets its contract: the automation of the part's own track.
use native.Mathlib.Omega.{arith}
use Rattle.std.proofs.lemmas.Result.{err_from_is_err_and}
use Rattle.laws.proofs.Refusals.{ticks_per_quarter_positive}
use Rattle.tracks.proofs.Ranges.{quarter_fits}
use Rattle.opening.proofs.Opening.{cut_deltas, cut_words, part_admitted, own_track}
use Rattle.automation.proofs.AutomationOutcomes.{part_refused, part_answered}
use Rattle.automation.proofs.automation.Goals as goal

pub returns-in_err-track : goal.returns-in_err-track
returns-in_err-track c =
    let p = err_from_is_err_and c.from_residual.result c.from_residual.ensures.1 in
    rw (p.1, p.2) (part_refused _ _ _ c.in_err-track.ensures.number)

pub cut-own_deltas-requires : goal.cut-own_deltas-requires
cut-own_deltas-requires c = cut_deltas c.in_ok-track.ensures.own

pub cut-own_words-requires : goal.cut-own_words-requires
cut-own_words-requires c = cut_words c.in_ok-track.ensures.own

pub write_automation-requires : goal.write_automation-requires
write_automation-requires c =
    let opened = c.in_ok-track.ensures in
    let known = part_admitted _ _ opened in
    let p = c.ticks_per_quarter-p.ensures in
    rw (c.cut-own_deltas.ensures, c.cut-own_words.ensures) (
      own_track _ _ opened,
      omega (arith, p, ticks_per_quarter_positive _ known),
      omega (arith, p, quarter_fits _ known),
    )

pub returns : goal.returns
returns c =
    part_answered _ _ c.in_ok-track.ensures c.ticks_per_quarter-p.ensures
    (rw (c.cut-own_deltas.ensures, c.cut-own_words.ensures) at c.write_automation.ensures)
