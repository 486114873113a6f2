-- `channel_message` reads one or two data bytes: each way out is a law.
use mathlib.Core.Path.{sym, ◌∙◌}
use native.Mathlib.Omega.{arith}
use Rattle.file_events.proofs.Laws.{byte_there, no_byte, channel_none, channel_one, channel_half, channel_two}
use Rattle.file_events.proofs.channel_message.Goals as goal

pub returns-in_err-get : goal.returns-in_err-get
returns-in_err-get c =
    rw c.from_residual.ensures (channel_none _ _ _ (omega (arith, no_byte _ _ c.in_err-get.ensures.lookup.0)))

pub returns-then-x-gt127 : goal.returns-then-x-gt127
returns-then-x-gt127 c =
    let first = c.from-x.ensures ∙ byte_there _ _ c.in_ok-get.ensures.lookup.0 _ c.in_ok-get.ensures.lookup.1 in
    channel_none _ _ _ (omega (arith, first))

pub returns-then-has_one_byte : goal.returns-then-has_one_byte
returns-then-has_one_byte c =
    let first = c.from-x.ensures ∙ byte_there _ _ c.in_ok-get.ensures.lookup.0 _ c.in_ok-get.ensures.lookup.1 in
    rw (c.channel_taken.ensures, first)
    (channel_one _ _ _ c.requires.0 (omega (arith, first)) (sym c.has_one_byte.ensures ∙ c.if-has_one_byte.true))

pub returns-in_err-get-2 : goal.returns-in_err-get-2
returns-in_err-get-2 c =
    let first = c.from-x.ensures ∙ byte_there _ _ c.in_ok-get.ensures.lookup.0 _ c.in_ok-get.ensures.lookup.1 in
    rw c.from_residual-in_err-get-2.ensures
    (channel_half _ _ _ (omega (arith, first)) (sym c.has_one_byte.ensures ∙ c.if-has_one_byte.false)
    (omega (arith, no_byte _ _ c.in_err-get-2.ensures.lookup.0)))

pub returns-then-y-gt127 : goal.returns-then-y-gt127
returns-then-y-gt127 c =
    let first = c.from-x.ensures ∙ byte_there _ _ c.in_ok-get.ensures.lookup.0 _ c.in_ok-get.ensures.lookup.1 in
    let second = c.from-y.ensures ∙ byte_there _ _ c.in_ok-get-2.ensures.lookup.0 _ c.in_ok-get-2.ensures.lookup.1 in
    channel_half _ _ _ (omega (arith, first)) (sym c.has_one_byte.ensures ∙ c.if-has_one_byte.false) (omega (arith, second))

pub returns : goal.returns
returns c =
    let first = c.from-x.ensures ∙ byte_there _ _ c.in_ok-get.ensures.lookup.0 _ c.in_ok-get.ensures.lookup.1 in
    let second = c.from-y.ensures ∙ byte_there _ _ c.in_ok-get-2.ensures.lookup.0 _ c.in_ok-get-2.ensures.lookup.1 in
    rw (c.channel_taken-2.ensures, first, second)
    (channel_two _ _ _ (omega (arith, first)) (sym c.has_one_byte.ensures ∙ c.if-has_one_byte.false) c.requires.0 (omega (arith, second)))
