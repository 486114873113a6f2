use Prim.Native.Nat.{◌<◌}
use mathlib.Core.Path.{◌≡◌, refl, sym, ◌∙◌}
use native.Mathlib.Omega.{arith}
use lib.ListN.{length}
use Rattle.admission.proofs.Numbers.{bad_delta, bad_word, bad_later}
use Rattle.admission.proofs.bad_event.Goals as goal

pub loop-i-init : goal.loop-i-init
loop-i-init c = refl

pub offset_bounds-deltas-i : goal.offset_bounds-deltas-i
offset_bounds-deltas-i c = omega (arith, c.requires.2)

pub bounds-deltas-i : goal.bounds-deltas-i
bounds-deltas-i c = omega (arith, c.requires.2)

pub returns-then-deltas-i-gt-LARGEST_DELTA : goal.returns-then-deltas-i-gt-LARGEST_DELTA
returns-then-deltas-i-gt-LARGEST_DELTA c =
    let ds = c.args.deltas.now in
    let ws = c.args.words.now in
    let i = c.loop-i.i in
    let h : i < length ds = omega (arith, c.requires.2) in
    let k : i < length ws = omega (arith, c.requires.0, h) in
    record {
      none = λ z. absurd (omega (arith, z));
      some = λ z. sym (c.loop-i.invariant ∙ bad_delta ds ws i h k c.if-deltas-i-gt-LARGEST_DELTA.true);
    }

pub offset_bounds-words-i : goal.offset_bounds-words-i
offset_bounds-words-i c = omega (arith, c.requires.2)

pub bounds-words-i : goal.bounds-words-i
bounds-words-i c = let pre = c.requires in
    omega (arith, pre.2, pre.0)

pub returns-then-not-well_formed : goal.returns-then-not-well_formed
returns-then-not-well_formed c =
    let ds = c.args.deltas.now in
    let ws = c.args.words.now in
    let i = c.loop-i.i in
    let h : i < length ds = omega (arith, c.requires.2) in
    let k : i < length ws = omega (arith, c.requires.0, h) in
    let ill = sym c.well_formed-in-loop-i.ensures ∙ c.if-not-well_formed.true in
    record {
      none = λ z. absurd (omega (arith, z));
      some = λ z. sym (c.loop-i.invariant ∙ bad_word ds ws i h k c.if-deltas-i-gt-LARGEST_DELTA.false ill);
    }

pub loop-i-preserved : goal.loop-i-preserved
loop-i-preserved c =
    let ds = c.args.deltas.now in
    let ws = c.args.words.now in
    let i = c.loop-i.i in
    let h : i < length ds = omega (arith, c.requires.2) in
    let k : i < length ws = omega (arith, c.requires.0, h) in
    let well = sym c.well_formed-in-loop-i.ensures ∙ c.if-not-well_formed.false in
    c.loop-i.invariant ∙ bad_later ds ws i h k c.if-deltas-i-gt-LARGEST_DELTA.false well

pub returns : goal.returns
returns c =
    let here = c.loop-i in
    let done : here.i ≡ c.args.to = omega (arith, c.requires) in
    record { none = λ z. rw done at here.invariant; some = λ z. absurd (z refl) }
