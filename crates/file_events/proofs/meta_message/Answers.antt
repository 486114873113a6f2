-- `meta_message` reads a type and its data, and tests the length: each way out is a law.
use mathlib.Core.Path.{sym, ◌∙◌}
use native.Mathlib.Omega.{arith}
use Rattle.std.proofs.lemmas.Bool.{ltb-true}
use Rattle.track_events.proofs.Tracks.{length_stretch}
use Rattle.file_events.proofs.Laws.{byte_there, no_byte, span_within, meta_none, meta_broken, meta_unfit, meta_read}
use Rattle.file_events.proofs.meta_message.Goals as goal

pub returns-in_err-get : goal.returns-in_err-get
returns-in_err-get c = rw c.from_residual.ensures (meta_none _ _ 256 (no_byte _ _ c.in_err-get.ensures.lookup.0) (omega arith))

pub returns-then-kind-gt127 : goal.returns-then-kind-gt127
returns-then-kind-gt127 c =
    let byte = c.from-kind.ensures ∙ byte_there _ _ c.in_ok-get.ensures.lookup.0 _ c.in_ok-get.ensures.lookup.1 in
    meta_none _ _ _ byte (omega arith)

pub read_data-requires : goal.read_data-requires
read_data-requires c =
    let within = ltb-true _ _ (sym c.in_ok-get.ensures.lookup.0) in
    omega (arith, within)

pub returns-in_err-span : goal.returns-in_err-span
returns-in_err-span c =
    let byte = c.from-kind.ensures ∙ byte_there _ _ c.in_ok-get.ensures.lookup.0 _ c.in_ok-get.ensures.lookup.1 in
    rw c.from_residual-in_err-span.ensures (meta_broken _ _ _ byte (omega arith) c.in_err-span.was c.read_data.ensures)

pub overflow_sub-to : goal.overflow_sub-to
overflow_sub-to c = (span_within _ _ c.in_ok-span.was c.read_data.ensures).0

pub returns-then-not-meta_fits : goal.returns-then-not-meta_fits
returns-then-not-meta_fits c =
    let byte = c.from-kind.ensures ∙ byte_there _ _ c.in_ok-get.ensures.lookup.0 _ c.in_ok-get.ensures.lookup.1 in
    meta_unfit _ _ _ byte (omega arith) c.in_ok-span.was c.read_data.ensures (sym c.meta_fits.ensures ∙ c.if-not-meta_fits.true)

pub slice_bounds-meta_word-count : goal.slice_bounds-meta_word-count
slice_bounds-meta_word-count c = (span_within _ _ c.in_ok-span.was c.read_data.ensures).0

pub slice_bounds-meta_word-start : goal.slice_bounds-meta_word-start
slice_bounds-meta_word-start c = (span_within _ _ c.in_ok-span.was c.read_data.ensures).0

pub slice_bounds-meta_word-end : goal.slice_bounds-meta_word-end
slice_bounds-meta_word-end c = (span_within _ _ c.in_ok-span.was c.read_data.ensures).1

pub meta_word-word-requires : goal.meta_word-word-requires
meta_word-word-requires c =
    let here = span_within _ _ c.in_ok-span.was c.read_data.ensures in
    rw (length_stretch _ _ _ here.0 here.1) (sym c.meta_fits.ensures ∙ c.if-not-meta_fits.false)

pub returns : goal.returns
returns c =
    let byte = c.from-kind.ensures ∙ byte_there _ _ c.in_ok-get.ensures.lookup.0 _ c.in_ok-get.ensures.lookup.1 in
    rw c.well_formed-2.ensures
    (meta_read _ _ _ byte (omega arith) c.in_ok-span.was c.read_data.ensures (sym c.meta_fits.ensures ∙ c.if-not-meta_fits.false) c.meta_word-word.ensures)
