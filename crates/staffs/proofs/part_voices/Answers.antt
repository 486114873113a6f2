-- `part_voices`: the part is opened, the work area has room, and the voices of its own track stand in it.
use mathlib.Core.Path.{refl}
use Rattle.std.proofs.lemmas.Result.{err_from_is_err_and}
use Rattle.opening.proofs.Opening.{part_admitted, few_notes, cut_deltas, cut_words}
use Rattle.staffs.proofs.Parts.{not_opened, no_work, voiced, tracked}
use Rattle.staffs.proofs.part_voices.Goals as goal

pub returns-in_err-track : goal.returns-in_err-track
returns-in_err-track c =
    let p = err_from_is_err_and c.from_residual.result c.from_residual.ensures.1 in
    rw (p.1, p.2) (not_opened _ _ _ c.in_err-track.ensures.number)

pub most_notes-most-requires : goal.most_notes-most-requires
most_notes-most-requires c = (part_admitted _ _ c.in_ok-track.ensures).sizes

pub work_for-requires : goal.work_for-requires
work_for-requires c = few_notes _ (part_admitted _ _ c.in_ok-track.ensures) c.most_notes-most.ensures

pub returns-then-work-work_for : goal.returns-then-work-work_for
returns-then-work-work_for c =
    no_work _ _ c.in_ok-track.ensures c.most_notes-most.ensures (rw c.work_for.ensures at c.if-work-work_for.true)

pub cut-own_deltas-requires : goal.cut-own_deltas-requires
cut-own_deltas-requires c = cut_deltas c.in_ok-track.ensures.own

pub cut-own_words-requires : goal.cut-own_words-requires
cut-own_words-requires c = cut_words c.in_ok-track.ensures.own

pub track_voices-lens-requires : goal.track_voices-lens-requires
track_voices-lens-requires c =
    tracked _ _ c.in_ok-track.ensures c.most_notes-most.ensures
    c.cut-own_deltas.ensures c.cut-own_words.ensures
    c.ticks_per_quarter-p.ensures (rw c.work_for.ensures at c.if-work-work_for.false) refl

pub bar_source-source-requires : goal.bar_source-source-requires
bar_source-source-requires c = part_admitted _ _ c.in_ok-track.ensures

pub shape_of-work : goal.shape_of-work
shape_of-work c = c.track_voices-lens.auto.work

pub returns : goal.returns
returns c =
    voiced _ _ c.in_ok-track.ensures c.most_notes-most.ensures
    c.cut-own_deltas.ensures c.cut-own_words.ensures
    c.ticks_per_quarter-p.ensures (rw c.work_for.ensures at c.if-work-work_for.false) refl
    c.bar_source-source.ensures c.track_voices-lens.ensures
