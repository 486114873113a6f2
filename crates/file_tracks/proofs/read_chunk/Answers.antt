-- `file_tracks::read_chunk` finds a chunk's type, its bytes and what stands behind them.
use native.Mathlib.Omega.{arith}
use Rattle.laws.proofs.Parsed.{both_none}
use Rattle.file_tracks.proofs.Laws.{chunk_short, chunk_cut, chunk_found}
use Rattle.file_tracks.proofs.read_chunk.Goals as goal

pub returns-then-bytes-at-lt8 : goal.returns-then-bytes-at-lt8
returns-then-bytes-at-lt8 c = let a = c.args in both_none _ (chunk_short a.bytes.now a.at c.if-bytes-at-lt8.true)

pub returns-then-bytes-from : goal.returns-then-bytes-from
returns-then-bytes-from c =
    let a = c.args in
    both_none _
    (chunk_cut a.bytes.now a.at (omega arith) _
    c.four_bytes-length.ensures c.if-bytes-from.true)

pub returns : goal.returns
returns c =
    let a = c.args in
    chunk_found a.bytes.now a.at (omega arith) _ _ c.four_bytes-kind.ensures
    c.four_bytes-length.ensures c.if-bytes-from.false
