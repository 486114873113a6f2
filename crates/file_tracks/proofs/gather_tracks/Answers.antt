use mathlib.Core.Path.{refl, ◌∙◌}
use native.Mathlib.Omega.{arith}
use Rattle.laws.proofs.Parsed.{both_some, both_none}
use Rattle.file_events.proofs.Laws.{something, nothing}
use Rattle.file_tracks.proofs.Laws.{grown_some, chunks_start, chunks_broken, chunks_end, chunks_stopped, chunks_more}
use Rattle.file_tracks.proofs.gather_tracks.Goals as goal

pub loop-at-init : goal.loop-at-init
loop-at-init c =
    let a = c.args in
    (omega arith, omega arith, omega arith, refl, refl, refl, chunks_start a.bytes.now a.start a.sizes.now a.deltas.now a.words.now)

pub returns-in_err-chunk : goal.returns-in_err-chunk
returns-in_err-chunk c =
    rw c.from_residual.ensures
    (both_none _
    (chunks_broken _ _ _ _ _ _ _ _ _ _ c.loop-at.invariant.6 (omega arith) (nothing _ c.in_err-chunk.was c.read_chunk.ensures)))

pub gather_chunk-requires : goal.gather_chunk-requires
gather_chunk-requires c =
    let (h, is, read) = something _ c.in_ok-chunk.was c.read_chunk.ensures in
    record {
      from_le_to = (read.from, read.within, omega arith);
      events_le_from = (omega (arith, read.ahead, c.loop-at.invariant.1), omega (arith, read.ahead, c.loop-at.invariant.2));
    }

pub returns-in_err-next : goal.returns-in_err-next
returns-in_err-next c =
    let (h, is, read) = something _ c.in_ok-chunk.was c.read_chunk.ensures in
    rw c.from_residual-in_err-next.ensures
    (both_none _
    (chunks_stopped _ _ _ _ _ _ _ _ _ _ c.loop-at.invariant.6 h _ is read
    (nothing _ c.in_err-next.was (c.gather_chunk.ensures.held _ _ _ _ c.loop-at.invariant.6.held))))

pub loop-at-smaller : goal.loop-at-smaller
loop-at-smaller c =
    let (h, is, read) = something _ c.in_ok-chunk.was c.read_chunk.ensures in
    omega (arith, read.ahead, read.from, read.within)

pub loop-at-preserved : goal.loop-at-preserved
loop-at-preserved c =
    let (h, is, read) = something _ c.in_ok-chunk.was c.read_chunk.ensures in
    let (more, adds, held) = something _ c.in_ok-next.was (c.gather_chunk.ensures.held _ _ _ _ c.loop-at.invariant.6.held) in
    let grown = grown_some c.loop-at.g _ _ c.in_ok-next.was c.gather_chunk.ensures.grown in
    let k = c.gather_chunk.auto in (
      read.within,
      omega (arith, grown.1, c.loop-at.invariant.1, read.ahead, read.from),
      omega (arith, grown.2, c.loop-at.invariant.2, read.ahead, read.from),
      k.sizes ∙ c.loop-at.invariant.3,
      k.deltas ∙ c.loop-at.invariant.4,
      k.words ∙ c.loop-at.invariant.5,
      chunks_more _ _ _ _ _ _ _ _ _ _ c.loop-at.invariant.6 h _ is read more _ _ _ _ adds held,
    )

pub returns : goal.returns
returns c =
    both_some _ _ (chunks_end _ _ _ _ _ _ _ _ _ _ c.loop-at.invariant.6 (omega (arith, c.loop-at-test.false))) c.loop-at.invariant.6.held
