-- `meta_word` goes by the type as the definition does; the data is as long as its type asks.
use mathlib.Core.Path.{◌≡◌, sym, ◌∙◌}
use native.Mathlib.Omega.{arith}
use borrow.Author.Tests.{ne_eqb}
use lib.ListN.{length}
use Rattle.rules.specs.File.{meta_word}
use Rattle.file_events.proofs.Laws.{tempo_size, meter_size, key_size, marker_size}
use Rattle.file_events.proofs.meta_word.Goals as goal

pub returns-then-kind-eq47 : goal.returns-then-kind-eq47
unfolding meta_word
returns-then-kind-eq47 c = rw c.if-kind-eq47.true

pub bounds-content-0 : goal.bounds-content-0
bounds-content-0 c =
    let three : (length c.args.content.now ≡ 3) = tempo_size _ _ c.requires c.if-kind-eq81.true in
    omega (arith, three)

pub bounds-content-1 : goal.bounds-content-1
bounds-content-1 c =
    let three : (length c.args.content.now ≡ 3) = tempo_size _ _ c.requires c.if-kind-eq81.true in
    omega (arith, three)

pub bounds-content-2 : goal.bounds-content-2
bounds-content-2 c =
    let three : (length c.args.content.now ≡ 3) = tempo_size _ _ c.requires c.if-kind-eq81.true in
    omega (arith, three)

-- ---- the words
pub overflow_add-result : goal.overflow_add-result
overflow_add-result c =
    let bytes = c.type_inv.content in
    omega (arith, c.word_of_two.ensures, c.from.ensures, bytes 0, bytes 1, bytes 2)

pub returns-then-kind-eq81 : goal.returns-then-kind-eq81
unfolding meta_word
returns-then-kind-eq81 c =
    rw c.if-kind-eq81.true (omega (arith, c.word_of_two.ensures, c.from.ensures))

pub bounds-content-0-then-kind-eq88 : goal.bounds-content-0-then-kind-eq88
bounds-content-0-then-kind-eq88 c =
    let four : (length c.args.content.now ≡ 4) = meter_size _ _ c.requires c.if-kind-eq88.true in
    omega (arith, four)

pub bounds-content-1-then-kind-eq88 : goal.bounds-content-1-then-kind-eq88
bounds-content-1-then-kind-eq88 c =
    let four : (length c.args.content.now ≡ 4) = meter_size _ _ c.requires c.if-kind-eq88.true in
    omega (arith, four)

pub returns-then-kind-eq88 : goal.returns-then-kind-eq88
unfolding meta_word
returns-then-kind-eq88 c = c.word_of_two-then-kind-eq88.ensures ∙ rw c.if-kind-eq88.true

pub bounds-content-0-then-kind-eq89 : goal.bounds-content-0-then-kind-eq89
bounds-content-0-then-kind-eq89 c =
    let two : (length c.args.content.now ≡ 2) = key_size _ _ c.requires c.if-kind-eq89.true in
    omega (arith, two)

pub bounds-content-1-then-kind-eq89 : goal.bounds-content-1-then-kind-eq89
bounds-content-1-then-kind-eq89 c =
    let two : (length c.args.content.now ≡ 2) = key_size _ _ c.requires c.if-kind-eq89.true in
    omega (arith, two)

pub returns-then-kind-eq89 : goal.returns-then-kind-eq89
unfolding meta_word
returns-then-kind-eq89 c = c.word_of_two-then-kind-eq89.ensures ∙ rw c.if-kind-eq89.true

pub returns-then-kind-ne127 : goal.returns-then-kind-ne127
unfolding meta_word
returns-then-kind-ne127 c =
    rw (
      ne_eqb _ _ c.if-kind-eq47.false,
      ne_eqb _ _ c.if-kind-eq81.false,
      ne_eqb _ _ c.if-kind-eq88.false,
      ne_eqb _ _ c.if-kind-eq89.false,
      ne_eqb _ _ c.if-kind-ne127.true,
    )

pub bounds-content-5 : goal.bounds-content-5
bounds-content-5 c =
    let seven : (length c.args.content.now ≡ 7) = marker_size c.args.content.now (sym c.is_marker.ensures ∙ c.if-is_marker.true) in
    omega (arith, seven)

pub bounds-content-6 : goal.bounds-content-6
bounds-content-6 c =
    let seven : (length c.args.content.now ≡ 7) = marker_size c.args.content.now (sym c.is_marker.ensures ∙ c.if-is_marker.true) in
    omega (arith, seven)

pub returns-then-is_marker : goal.returns-then-is_marker
unfolding meta_word
returns-then-is_marker c =
    c.word_of_two-then-is_marker.ensures ∙ rw c.if-kind-ne127.false (rw (sym c.is_marker.ensures ∙ c.if-is_marker.true))

pub returns : goal.returns
unfolding meta_word
returns c = rw c.if-kind-ne127.false (rw (sym c.is_marker.ensures ∙ c.if-is_marker.false))
