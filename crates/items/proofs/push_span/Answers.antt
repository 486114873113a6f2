-- `push_span` writes the values and the keys of a span, or counts its values.
use native.Mathlib.Omega.{arith}
use Rattle.items.proofs.Spans.{span_room, span_written, span_counted, left_few}
use Rattle.items.proofs.push_span.Goals as goal

pub split_span-split-requires : goal.split_span-split-requires
split_span-split-requires c =
    let pre = c.requires in
    (span_room pre.0 (pre.3.heads_fit c.if-write.true), pre.1)

pub push_keys-requires : goal.push_keys-requires
push_keys-requires c =
    let pre = c.requires in
    let next = (c.split_span-split.ensures _ pre.0.some_ticks pre.0.is).next in
    (omega arith, omega (arith, pre.3.keys_fit c.if-write.true))

pub overflow_add-result : goal.overflow_add-result
overflow_add-result c =
    let pre = c.requires in
    let split = c.split_span-split.ensures _ pre.0.some_ticks pre.0.is in
    omega (arith, pre.2, split.left, left_few _ c.args.ticks pre.0.some_ticks)

pub returns-then-write : goal.returns-then-write
returns-then-write c =
    let pre = c.requires in
    let split = c.split_span-split.ensures _ pre.0.some_ticks pre.0.is in
    rw c.if-write.true (span_written pre.0 split c.push_keys.ensures)

pub overflow_add-result-2 : goal.overflow_add-result-2
overflow_add-result-2 c =
    let pre = c.requires in
    omega (arith, pre.3.small, (c.count_pieces-count.ensures _ pre.0.some_ticks pre.0.is).pieces)

pub overflow_add-result-3 : goal.overflow_add-result-3
overflow_add-result-3 c =
    let pre = c.requires in
    let count = c.count_pieces-count.ensures _ pre.0.some_ticks pre.0.is in
    omega (arith, pre.2, count.left, left_few _ c.args.ticks pre.0.some_ticks)

pub returns : goal.returns
returns c =
    let pre = c.requires in
    rw c.if-write.false
    (span_counted pre.0 c.args.from _ _ _ _ _ (c.count_pieces-count.ensures _ pre.0.some_ticks pre.0.is))
