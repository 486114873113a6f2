-- `replayed::gone_on` meets its contract: one digit more, the end of the number, or a word.
use mathlib.Core.Path.{sym, ◌∙◌}
use native.Mathlib.Omega.{arith}
use Rattle.replayed.proofs.Laws.{digit_low, on_digit, on_large, on_gap, on_word, gap_label, gap_low, gap_none}
use Rattle.replayed.proofs.gone_on.Goals as goal

pub overflow_sub-next : goal.overflow_sub-next
overflow_sub-next c = digit_low _ (sym c.is_ascii_digit.ensures.value ∙ c.if-is_ascii_digit.true)

pub returns-then-value-next : goal.returns-then-value-next
returns-then-value-next c =
    let low = digit_low c.args.byte (sym c.is_ascii_digit.ensures.value ∙ c.if-is_ascii_digit.true) in
    sym (on_digit _ _ _ (sym c.is_ascii_digit.ensures.value ∙ c.if-is_ascii_digit.true) (omega (arith, c.if-value-next.true)))

pub returns-then-is_ascii_digit : goal.returns-then-is_ascii_digit
returns-then-is_ascii_digit c =
    let low = digit_low c.args.byte (sym c.is_ascii_digit.ensures.value ∙ c.if-is_ascii_digit.true) in
    sym (on_large _ _ _ (sym c.is_ascii_digit.ensures.value ∙ c.if-is_ascii_digit.true) (omega (arith, c.if-value-next.false)))

pub returns-then-label : goal.returns-then-label
returns-then-label c =
    sym (on_gap _ _ _ (sym c.is_ascii_digit.ensures.value ∙ c.if-is_ascii_digit.false)
    (gap_label _ c.args.byte c.if-label.true))

pub returns-then-byte-le32 : goal.returns-then-byte-le32
returns-then-byte-le32 c =
    sym (on_gap _ _ _ (sym c.is_ascii_digit.ensures.value ∙ c.if-is_ascii_digit.false)
    (gap_low _ _ c.if-label.false c.if-byte-le32.true))

pub returns : goal.returns
returns c =
    sym (on_word _ _ _ (sym c.is_ascii_digit.ensures.value ∙ c.if-is_ascii_digit.false)
    (gap_none _ _ c.if-label.false c.if-byte-le32.false))
