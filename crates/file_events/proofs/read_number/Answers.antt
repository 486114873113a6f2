use Prim.Native.Nat.{◌≤◌, ◌<◌}
use mathlib.Core.Path.{◌≡◌, sym, ◌∙◌}
use native.Mathlib.Omega.{arith}
use Rattle.std.proofs.lemmas.Bool.{ltb-true, ltb-false}
use lib.ListN.{length, get_or}
use Rattle.file_events.proofs.Laws.{get_d_any, partly_none, partly_small, partly_past, partly_long, partly_more}
use Rattle.file_events.proofs.read_number.Goals as goal

pub loop-i-init : goal.loop-i-init
loop-i-init c = partly_none _ _

pub returns-in_err-get : goal.returns-in_err-get
returns-in_err-get c =
    let past : (length c.args.bytes.now ≤ c.loop-i.i) = ltb-false _ _ (sym c.in_err-get.ensures.lookup.0) in
    rw c.from_residual.ensures (partly_past _ _ _ _ c.loop-i.invariant (past))

pub overflow_mul-result : goal.overflow_mul-result
overflow_mul-result c = omega (arith, partly_small _ _ _ _ c.loop-i.invariant (omega arith))

pub overflow_add-result : goal.overflow_add-result
overflow_add-result c = omega (arith, partly_small _ _ _ _ c.loop-i.invariant (omega arith))

pub overflow_mul-value : goal.overflow_mul-value
overflow_mul-value c = omega (arith, partly_small _ _ _ _ c.loop-i.invariant (omega arith))

pub overflow_add-value : goal.overflow_add-value
overflow_add-value c =
    let byte : (c.from-b.result < 256) = omega (arith, c.type_inv.bytes c.loop-i.i) in
    omega (arith, partly_small _ _ _ _ c.loop-i.invariant (omega arith), byte)

pub loop-i-preserved : goal.loop-i-preserved
loop-i-preserved c =
    let byte : (c.from-b.result < 256) = omega (arith, c.type_inv.bytes c.loop-i.i) in
    let within : (c.loop-i.i < length c.args.bytes.now) = ltb-true _ _ (sym c.in_ok-get.ensures.lookup.0) in
    let is : (c.from-b.result ≡ get_or c.args.bytes.now c.loop-i.i 0) = c.from-b.ensures ∙ c.in_ok-get.ensures.lookup.1 ∙ get_d_any _ _ _ 0 (within) in
    rw is (partly_more _ _ _ _ c.loop-i.invariant (omega arith) (within) (omega (arith, is)) (omega (arith, is, byte)))

pub returns : goal.returns
returns c = partly_long _ _ _ _ c.loop-i.invariant (omega arith)
