use mathlib.Core.Bool.{true, false}
use mathlib.Core.Path.{◌≡◌, refl, sym, ◌∙◌}
use native.Mathlib.Omega.{arith}
use Rattle.replayed.specs.Decimals.{ended}
use Rattle.replayed.proofs.Laws.{scan_more, scan_ended, scan_end}
use Rattle.replayed.proofs.scan.Goals as goal

pub loop-at-init : goal.loop-at-init
loop-at-init c = (refl, λ h. refl)

pub returns-then-is_ended : goal.returns-then-is_ended
returns-then-is_ended c =
    let at = c.loop-at in
    let a = c.args in
    let over : ended at.found ≡ true = sym c.is_ended.ensures ∙ c.if-is_ended.true in
    sym (scan_ended a.label a.text.now at.found at.at (omega arith) over) ∙ at.invariant.0

pub loop-at-preserved : goal.loop-at-preserved
loop-at-preserved c =
    let at = c.loop-at in
    let a = c.args in
    let going : ended at.found ≡ false = sym c.is_ended.ensures ∙ c.if-is_ended.false in (
      rw c.step-found.ensures (sym (scan_more a.label a.text.now at.found at.at (omega arith) going) ∙ at.invariant.0),
      λ h. absurd (omega (arith, at.auto.at)),
    )

pub returns : goal.returns
returns c =
    let at = c.loop-at in
    let a = c.args in
    let stopped : c.max.result ≡ at.at = grind (arith, c.max.ensures, at.auto.at, at.auto.at-end, at.invariant.1) in
    rw stopped (sym (scan_end a.label a.text.now at.found at.at (omega arith)) ∙ at.invariant.0)
