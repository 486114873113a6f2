-- `read_staff`: 1 to 7, then 8, then what reading the part's own notes on their grid answers.
use Prim.Native.Nat.{◌≤◌}
use mathlib.Core.Path.{sym, ◌∙◌}
use native.Mathlib.Omega.{arith}
use lib.ListN.{length}
use Rattle.std.proofs.lemmas.Result.{err_from_is_err_and}
use Rattle.rules.specs.Piece.{Piece, piece}
use Rattle.rules.specs.Refusals.{part_refusals, work_for}
use Rattle.opening.proofs.Opening.{refuses, work_short, few_notes, cut_deltas, cut_words, part_passes, part_admitted, own_track, few_ons}
use Rattle.bar_source.proofs.Sources.{positive, walked}
use Rattle.proofread.proofs.Reading.{readable, reading_given}
use Rattle.proofread.proofs.read_staff.Goals as goal

pub returns-in_err-track : goal.returns-in_err-track
returns-in_err-track c =
    let a = c.args in
    let p = err_from_is_err_and c.from_residual.result c.from_residual.ensures.1 in
    rw (p.1, p.2) (sym (refuses (part_refusals (piece a.sizes.now a.deltas.now a.words.now) a.part) _ c.in_err-track.ensures.number _ _))

pub most_notes-n-requires : goal.most_notes-n-requires
most_notes-n-requires c = (part_admitted _ _ c.in_ok-track.ensures).sizes

pub work_for-requires : goal.work_for-requires
work_for-requires c = few_notes _ (part_admitted _ _ c.in_ok-track.ensures) c.most_notes-n.ensures

pub returns-then-work-work_for : goal.returns-then-work-work_for
returns-then-work-work_for c =
    let a = c.args in
    let x : Piece = piece a.sizes.now a.deltas.now a.words.now in
    sym
    (work_short x (part_refusals x a.part) (part_passes _ _ c.in_ok-track.ensures) c.most_notes-n.result
    (length a.work.now) c.most_notes-n.ensures _ _ (rw c.work_for.ensures at c.if-work-work_for.true))

pub cut-own_deltas-requires : goal.cut-own_deltas-requires
cut-own_deltas-requires c = cut_deltas c.in_ok-track.ensures.own

pub cut-own_words-requires : goal.cut-own_words-requires
cut-own_words-requires c = cut_words c.in_ok-track.ensures.own

pub collect_raw_notes-m-requires : goal.collect_raw_notes-m-requires
collect_raw_notes-m-requires c =
    let opened = c.in_ok-track.ensures in
    let room : work_for c.most_notes-n.result ≤ length c.args.work.now = rw c.work_for.ensures at c.if-work-work_for.false in
    rw (c.cut-own_deltas.ensures, c.cut-own_words.ensures) (own_track _ _ opened, few_ons _ _ opened c.most_notes-n.ensures, omega arith)

pub bar_source-source-requires : goal.bar_source-source-requires
bar_source-source-requires c = part_admitted _ _ c.in_ok-track.ensures

pub grid_of-g-requires : goal.grid_of-g-requires
grid_of-g-requires c =
    let room : work_for c.most_notes-n.result ≤ length c.args.work.now = rw c.work_for.ensures at c.if-work-work_for.false in
    (c.collect_raw_notes-m.ensures.room, omega arith)

pub cut-requires : goal.cut-requires
cut-requires c = cut_deltas c.bar_source-source.ensures.first

pub cut-requires-2 : goal.cut-requires-2
cut-requires-2 c = cut_words c.bar_source-source.ensures.first

pub read_part-reading-requires : goal.read_part-reading-requires
read_part-reading-requires c =
    let a = c.args in
    let x : Piece = piece a.sizes.now a.deltas.now a.words.now in
    let opened = c.in_ok-track.ensures in
    let source = c.bar_source-source.ensures in
    let admitted = part_admitted _ _ opened in
    let room : work_for c.most_notes-n.result ≤ length a.work.now = rw c.work_for.ensures at c.if-work-work_for.false in
    rw (c.cut.ensures, c.cut-2.ensures) (
      walked x admitted source,
      positive x admitted source,
      omega arith,
      readable x a.part opened source c.most_notes-n.ensures
          (rw (c.cut-own_deltas.ensures, c.cut-own_words.ensures) at c.collect_raw_notes-m.ensures)
          c.grid_of-g.ensures (omega arith),
    )

pub returns : goal.returns
returns c =
    let a = c.args in
    let room : work_for c.most_notes-n.result ≤ length a.work.now = rw c.work_for.ensures at c.if-work-work_for.false in
    reading_given (piece a.sizes.now a.deltas.now a.words.now) a.part c.in_ok-track.ensures c.bar_source-source.ensures
    c.most_notes-n.ensures
    (rw (c.cut-own_deltas.ensures, c.cut-own_words.ensures) at c.collect_raw_notes-m.ensures)
    c.grid_of-g.ensures (record { counts = a.counts.now; heads = a.heads.now; keys = a.keys.now })
    (length a.work.now) room
    (c.answered.ensures ∙ rw (c.cut.ensures, c.cut-2.ensures) at c.read_part-reading.ensures)
