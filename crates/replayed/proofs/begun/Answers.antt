-- `replayed::begun` meets its contract: a digit, a gap or a word.
use mathlib.Core.Path.{sym, ◌∙◌}
use Rattle.replayed.proofs.Laws.{digit_low, begun_digit, begun_gap, begun_word, gap_label, gap_low, gap_none}
use Rattle.replayed.proofs.begun.Goals as goal

pub overflow_sub-result : goal.overflow_sub-result
overflow_sub-result c = digit_low _ (sym c.is_ascii_digit.ensures.value ∙ c.if-is_ascii_digit.true)

pub returns-then-is_ascii_digit : goal.returns-then-is_ascii_digit
returns-then-is_ascii_digit c = sym (begun_digit _ _ (sym c.is_ascii_digit.ensures.value ∙ c.if-is_ascii_digit.true))

pub returns-then-label : goal.returns-then-label
returns-then-label c =
    sym (begun_gap _ _ (sym c.is_ascii_digit.ensures.value ∙ c.if-is_ascii_digit.false)
    (gap_label _ c.args.byte c.if-label.true))

pub returns-then-byte-le32 : goal.returns-then-byte-le32
returns-then-byte-le32 c =
    sym (begun_gap _ _ (sym c.is_ascii_digit.ensures.value ∙ c.if-is_ascii_digit.false)
    (gap_low _ _ c.if-label.false c.if-byte-le32.true))

pub returns : goal.returns
returns c =
    sym (begun_word _ _ (sym c.is_ascii_digit.ensures.value ∙ c.if-is_ascii_digit.false)
    (gap_none _ _ c.if-label.false c.if-byte-le32.false))
