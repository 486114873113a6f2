-- `files::read_header` reads the first chunk's first six bytes.
use native.Mathlib.Omega.{arith}
use Rattle.laws.proofs.Parsed.{both_none}
use Rattle.file_events.proofs.Laws.{something, nothing}
use Rattle.files.proofs.Laws.{no_chunk, other_chunk, short_header, header_found}
use Rattle.files.proofs.read_header.Goals as goal

pub returns-in_err-chunk : goal.returns-in_err-chunk
returns-in_err-chunk c = rw c.from_residual.ensures (both_none _ (no_chunk _ (nothing _ c.in_err-chunk.was c.read_chunk.ensures)))

pub returns-then-chunk-ne-MTHD : goal.returns-then-chunk-ne-MTHD
returns-then-chunk-ne-MTHD c =
    let (h, is, read) = something _ c.in_ok-chunk.was c.read_chunk.ensures in both_none _ (other_chunk _ h _ is read c.if-chunk-ne-MTHD.true)

pub overflow_sub-chunk : goal.overflow_sub-chunk
overflow_sub-chunk c =
    let (h, is, read) = something _ c.in_ok-chunk.was c.read_chunk.ensures in omega (arith, read.from)

pub returns-then-chunk-from-lt6 : goal.returns-then-chunk-from-lt6
returns-then-chunk-from-lt6 c =
    let (h, is, read) = something _ c.in_ok-chunk.was c.read_chunk.ensures in both_none _ (short_header _ h _ is read c.if-chunk-from-lt6.true)

pub two_bytes-requires : goal.two_bytes-requires
two_bytes-requires c =
    let (h, is, read) = something _ c.in_ok-chunk.was c.read_chunk.ensures in omega (arith, read.within)

pub two_bytes-requires-2 : goal.two_bytes-requires-2
two_bytes-requires-2 c =
    let (h, is, read) = something _ c.in_ok-chunk.was c.read_chunk.ensures in omega (arith, read.within)

pub two_bytes-requires-3 : goal.two_bytes-requires-3
two_bytes-requires-3 c =
    let (h, is, read) = something _ c.in_ok-chunk.was c.read_chunk.ensures in omega (arith, read.within)

pub returns : goal.returns
returns c =
    let (h, is, read) = something _ c.in_ok-chunk.was c.read_chunk.ensures in
    header_found _ h _ is read c.if-chunk-ne-MTHD.false c.if-chunk-from-lt6.false _ _ _ c.two_bytes.ensures.0 c.two_bytes-2.ensures.0
    c.two_bytes-2.ensures.1 c.two_bytes-3.ensures.0
