-- `part_head`: the head is read off the part's own track.
use mathlib.Core.Path.{sym, ◌∙◌}
use Rattle.std.proofs.lemmas.Result.{err_from_is_err_and}
use Rattle.rules.specs.Refusals.{part_refusals}
use Rattle.laws.proofs.Refusals.{passes_given}
use Rattle.opening.proofs.Opening.{refuses_last, part_passes, cut_words}
use Rattle.heads.proofs.Heads.{part_given}
use Rattle.heads.proofs.part_head.Goals as goal

pub returns-in_err-track : goal.returns-in_err-track
returns-in_err-track c =
    let p = err_from_is_err_and c.from_residual.result c.from_residual.ensures.1 in
    rw (p.1, p.2) (sym (refuses_last (part_refusals _ _) _ c.in_err-track.ensures.number _))

pub cut-requires : goal.cut-requires
cut-requires c = cut_words c.in_ok-track.ensures.own

pub returns : goal.returns
returns c =
    part_given _ _ c.in_ok-track.ensures.own (rw c.cut.ensures at c.extract_program.ensures)
    ∙ sym (passes_given _ _ (part_passes _ _ c.in_ok-track.ensures))
