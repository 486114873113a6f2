-- `same_keys` compares two words of keys and the mark.
use native.Mathlib.Omega.{arith}
use Rattle.proofread_items.proofs.Lengths.{words_differ, words_differ_2, words_same}
use Rattle.proofread_items.proofs.same_keys.Goals as goal

pub returns-then-i-t : goal.returns-then-i-t
returns-then-i-t c =
    let a = c.args in
    rw (words_differ a.i.low a.i.high a.t.low a.t.high (omega arith) (omega arith) c.if-i-t.true)

pub returns-then-i-t-2 : goal.returns-then-i-t-2
returns-then-i-t-2 c =
    let a = c.args in
    rw (words_differ_2 a.i.low a.i.high a.t.low a.t.high c.if-i-t.false c.if-i-t-2.true)

pub returns : goal.returns
returns c =
    let a = c.args in
    rw (words_same a.i.low a.i.high a.t.low a.t.high c.if-i-t.false c.if-i-t-2.false)
