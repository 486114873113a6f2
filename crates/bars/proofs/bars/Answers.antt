-- `bars`: the bars of the first track up to the end of the piece, counted before they are written.
use mathlib.Core.Path.{◌≡◌}
use native.Mathlib.Omega.{arith}
use Prim.Native.Nat.{ℕ}
use mathlib.Core.List.{List}
use lib.ListN.{length}
use Rattle.std.proofs.lemmas.Result.{err_from_is_err_and}
use Rattle.rules.specs.Bars.{bars, bars_in, most_bars}
use Rattle.rules.specs.Piece.{Piece, piece}
use Rattle.rules.specs.Refusals.{note_refusals}
use Rattle.laws.specs.Admitted.{Admitted}
use Rattle.laws.proofs.BarLaws.{bars_stop}
use Rattle.track_events.specs.Track.{events_of, stretch}
use Rattle.bar_source.specs.declared.BarSource.{BarSource}
use Rattle.bar_source.specs.Source.{IsBarSource}
use Rattle.bar_walk.specs.Walk.{CanWalk}
use Rattle.bar_source.proofs.Sources.{walked, bars_are}
use Rattle.opening.proofs.Opening.{refuses, notes_pass, notes_admitted}
use Rattle.bars.proofs.BarOutcomes.{bars_refused, starts_short, marks_short, bars_given}
use Rattle.bars.proofs.bars.Goals as goal

-- the first track can be walked
walk : (x : Piece) → Admitted x → {s : BarSource} → IsBarSource x s → {d w : List ℕ}
    → d ≡ stretch s.from s.to x.deltas → w ≡ stretch s.from s.to x.words → CanWalk d w s.p s.end
walk x known is e f = rw (e, f) (walked x known is)

-- the count is of the piece's bars
counted : {x : Piece} {s : BarSource} → IsBarSource x s → {d w : List ℕ} {n : ℕ}
    → d ≡ stretch s.from s.to x.deltas → w ≡ stretch s.from s.to x.words
    → n ≡ length (bars_in most_bars s.p (events_of d w) s.end) → n ≡ length (bars x)
counted is e f h = rw (bars_are is most_bars) at (rw (e, f) at h)

pub returns-in_err-open_notes : goal.returns-in_err-open_notes
returns-in_err-open_notes c =
    let p = err_from_is_err_and c.from_residual.result c.from_residual.ensures.1 in
    rw (p.1, p.2) (bars_refused _ (refuses (note_refusals _) _ c.in_err-open_notes.ensures.number _ _))

pub bar_source-source-requires : goal.bar_source-source-requires
bar_source-source-requires c = notes_admitted _ c.in_ok-open_notes.ensures

pub count_bars-count-requires : goal.count_bars-count-requires
count_bars-count-requires c =
    walk _ (notes_admitted _ c.in_ok-open_notes.ensures) c.bar_source-source.ensures
    c.cut-first_deltas.ensures c.cut-first_words.ensures

pub returns-then-starts-count : goal.returns-then-starts-count
returns-then-starts-count c =
    starts_short _ (notes_pass _ c.in_ok-open_notes.ensures) _
    (counted c.bar_source-source.ensures c.cut-first_deltas.ensures c.cut-first_words.ensures c.count_bars-count.ensures) _ _
    c.if-starts-count.true

pub returns-then-marks-count : goal.returns-then-marks-count
returns-then-marks-count c =
    marks_short _ (notes_pass _ c.in_ok-open_notes.ensures) _
    (counted c.bar_source-source.ensures c.cut-first_deltas.ensures c.cut-first_words.ensures c.count_bars-count.ensures) _ _
    c.if-starts-count.false c.if-marks-count.true

pub midi_bars-requires : goal.midi_bars-requires
midi_bars-requires c = (
  walk _ (notes_admitted _ c.in_ok-open_notes.ensures) c.bar_source-source.ensures
      c.cut-first_deltas.ensures c.cut-first_words.ensures,
  record {
    starts_fit = omega (arith, c.count_bars-count.ensures, c.if-starts-count.false);
    marks_fit = omega (arith, c.count_bars-count.ensures, c.if-marks-count.false);
  },
)

pub overflow_cast-result : goal.overflow_cast-result
overflow_cast-result c =
    let x = piece c.args.sizes.now c.args.deltas.now c.args.words.now in
    omega (
      arith,
      counted c.bar_source-source.ensures c.cut-first_deltas.ensures c.cut-first_words.ensures c.count_bars-count.ensures,
      (bars_stop x).most,
    )

pub returns : goal.returns
returns c =
    let source = c.bar_source-source.ensures in
    bars_given _ (notes_pass _ c.in_ok-open_notes.ensures) _
    (counted source c.cut-first_deltas.ensures c.cut-first_words.ensures c.count_bars-count.ensures) _ _
    c.if-starts-count.false c.if-marks-count.false
    (rw (bars_are source most_bars, source.first.events)
    at (rw (c.cut-first_deltas.ensures, c.cut-first_words.ensures) at c.midi_bars.ensures))
