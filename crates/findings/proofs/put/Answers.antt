-- `put` stores one place and one detail.
use native.Mathlib.Omega.{arith}
use Rattle.findings.proofs.put.Goals as goal

pub returns : goal.returns
returns c =
    record {
      count = omega arith;
      places = rw c.place-place.ensures at c.store.ensures;
      details = rw c.detail-detail.ensures at c.store-2.ensures;
    }
