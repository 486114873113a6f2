-- `file_tracks::gather_chunk` takes a chunk by its type.
use mathlib.Core.List.{[], append-nil}
use mathlib.Core.Path.{refl, subst}
use native.Mathlib.Omega.{arith}
use borrow.Author.Tests.{eq-eqb, ne_eqb}
use Prim.Native.Nat.{◌-◌}
use Rattle.laws.proofs.Parsed.{both_some, both_none}
use Rattle.laws.proofs.Parts.{part_length}
use Rattle.file_tracks.specs.Gathering.{Grown}
use Rattle.file_tracks.proofs.Laws.{agrees_one}
use Rattle.file_tracks.proofs.gather_chunk.Goals as goal

pub returns-then-chunk-eq-MTHD : goal.returns-then-chunk-eq-MTHD
returns-then-chunk-eq-MTHD c = record { grown = tt; held = λ ss ds ws ts h. both_none _ (rw (eq-eqb _ _ c.if-chunk-eq-MTHD.true)) }

pub returns-then-chunk-eq-MTRK : goal.returns-then-chunk-eq-MTRK
returns-then-chunk-eq-MTRK c =
    let a = c.args in record {
      grown = subst (λ n. Grown a.gathered n 1 c.gather_track.result)
          (part_length a.chunk.from (a.chunk.to - a.chunk.from) a.bytes.now (omega arith)) c.gather_track.ensures.grown;
      held = λ ss ds ws ts h. rw (ne_eqb _ _ c.if-chunk-eq-MTHD.false, eq-eqb _ _ c.if-chunk-eq-MTRK.true)
          (agrees_one _ _ _ (c.gather_track.ensures.held ss ds ws ts h));
    }

pub returns : goal.returns
returns c = record {
  grown = (omega arith, omega arith, omega arith);
  held = λ ss ds ws ts h. rw (ne_eqb _ _ c.if-chunk-eq-MTHD.false, ne_eqb _ _ c.if-chunk-eq-MTRK.false) (both_some _ [] refl (rw (append-nil ts) h));
}
