-- `with_note` sets one bit, in the low or in the high word.
use Prim.Native.Nat.{◌+◌}
use native.Mathlib.Omega.{arith}
use Rattle.rules.specs.Lists.{bit}
use Rattle.proofread_notes.proofs.KeyWords.{bit_more, not_here, high_more}
use Rattle.proofread_notes.proofs.with_note.Goals as goal
use Rattle.proofread_notes.proofs.with_note.Goals.{then-x, else-x}

pub returns-then-key-lt64 : goal.returns-then-key-lt64
returns-then-key-lt64 c = let a = c.args in
    record {
      ended = elim c.if-x.branch [ then-x w ↦ cc | else-x w ↦ cc ];
      low = λ k h. bit_more k a.key a.x.low (omega arith);
      high = λ k h. not_here (bit k a.x.high) (64 + k) a.key (λ e. omega arith);
    }

pub returns : goal.returns
returns c = let a = c.args in
    record {
      ended = elim c.if-x.branch [ then-x w ↦ cc | else-x w ↦ cc ];
      low = λ k h. not_here (bit k a.x.low) k a.key (λ e. omega arith);
      high = λ k h. high_more k a.key a.x.high (omega arith) (omega arith);
    }
