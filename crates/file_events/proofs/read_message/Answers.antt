-- `read_message` goes by the first byte as the definition does: each way out is a law.
use mathlib.Core.Logic.{inr}
use mathlib.Core.Path.{refl, sym, ◌∙◌}
use native.Mathlib.Omega.{arith}
use Rattle.std.proofs.lemmas.Bool.{ltb-true}
use Rattle.file_events.specs.Events.{ChannelStatus}
use Rattle.file_events.proofs.Laws.{byte_there, no_byte, under_none, under_status, by_status, by_meta, by_system, by_none, from_status}
use Rattle.file_events.proofs.read_message.Goals as goal

pub returns-in_err-get : goal.returns-in_err-get
returns-in_err-get c =
    rw c.from_residual.ensures
    (by_none _ _ _ 256 (no_byte _ _ c.in_err-get.ensures.lookup.0) (omega arith) (omega arith) (λ e. omega arith) (λ e. omega arith) (λ e. omega arith))

pub returns-in_err-running : goal.returns-in_err-running
returns-in_err-running c =
    let byte = c.from-s.ensures ∙ byte_there _ _ c.in_ok-get.ensures.lookup.0 _ c.in_ok-get.ensures.lookup.1 in
    rw (c.from_residual-in_err-running.ensures, c.in_err-running.was) (under_none _ _ _ _ byte c.if-s-lt128.true refl)

pub channel_message-requires : goal.channel_message-requires
channel_message-requires c =
    let status : ChannelStatus c.in_ok-running.field-0 = rw c.in_ok-running.was at c.requires.0 in
    (status, c.requires.1)

pub returns-then-s-lt128 : goal.returns-then-s-lt128
returns-then-s-lt128 c =
    let byte = c.from-s.ensures ∙ byte_there _ _ c.in_ok-get.ensures.lookup.0 _ c.in_ok-get.ensures.lookup.1 in
    let status : ChannelStatus c.in_ok-running.field-0 = rw c.in_ok-running.was at c.requires.0 in
    rw c.in_ok-running.was (rw (under_status _ c.in_ok-running.field-0 _ _ byte c.if-s-lt128.true (λ e. omega (arith, e, status.least))) c.channel_message.ensures)

pub channel_message-requires-then-s-lt240 : goal.channel_message-requires-then-s-lt240
channel_message-requires-then-s-lt240 c =
    let within = ltb-true _ _ (sym c.in_ok-get.ensures.lookup.0) in
    (record { least = c.if-s-lt128.false; most = c.if-s-lt240.true }, omega (arith, within))

pub returns-then-s-lt240 : goal.returns-then-s-lt240
returns-then-s-lt240 c =
    let byte = c.from-s.ensures ∙ byte_there _ _ c.in_ok-get.ensures.lookup.0 _ c.in_ok-get.ensures.lookup.1 in
    rw (by_status _ _ _ _ byte c.if-s-lt128.false c.if-s-lt240.true) (from_status _ _ _ _ c.channel_message-then-s-lt240.ensures)

pub meta_message-requires : goal.meta_message-requires
meta_message-requires c =
    let within = ltb-true _ _ (sym c.in_ok-get.ensures.lookup.0) in
    omega (arith, within)

pub returns-then-s-eq255 : goal.returns-then-s-eq255
returns-then-s-eq255 c =
    let byte = c.from-s.ensures ∙ byte_there _ _ c.in_ok-get.ensures.lookup.0 _ c.in_ok-get.ensures.lookup.1 in
    rw (by_meta _ _ _ _ byte c.if-s-lt128.false c.if-s-lt240.false c.if-s-eq255.true)
    (from_status _ _ _ _ c.meta_message.ensures)

pub system_message-requires : goal.system_message-requires
system_message-requires c =
    let within = ltb-true _ _ (sym c.in_ok-get.ensures.lookup.0) in
    omega (arith, within)

pub system_message-requires-then-s-eq247 : goal.system_message-requires-then-s-eq247
system_message-requires-then-s-eq247 c =
    let within = ltb-true _ _ (sym c.in_ok-get.ensures.lookup.0) in
    omega (arith, within)

pub returns-then-s-eq247 : goal.returns-then-s-eq247
returns-then-s-eq247 c =
    let byte = c.from-s.ensures ∙ byte_there _ _ c.in_ok-get.ensures.lookup.0 _ c.in_ok-get.ensures.lookup.1 in
    rw (by_system _ _ _ _ byte c.if-s-lt128.false c.if-s-lt240.false (inr (omega (arith, c.if-s-eq247.true))))
    (from_status _ _ _ _ c.system_message-then-s-eq247.ensures)

pub returns : goal.returns
returns c =
    let byte = c.from-s.ensures ∙ byte_there _ _ c.in_ok-get.ensures.lookup.0 _ c.in_ok-get.ensures.lookup.1 in
    by_none _ _ _ _ byte c.if-s-lt128.false c.if-s-lt240.false c.if-s-eq255.false (λ e. omega arith) (λ e. omega arith)
