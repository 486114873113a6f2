use Prim.Native.Nat.{◌-◌, ◌≤◌, ◌<◌}
use mathlib.Core.Bool.{false, false≢true}
use mathlib.Core.Path.{◌≡◌, sym, ◌∙◌}
use native.Mathlib.Omega.{arith}
use lib.ListN.{length, drop, drop_of_length-le}
use Rattle.rules.specs.Lists.{any}
use Rattle.rules.specs.Piece.{is_on}
use Rattle.laws.proofs.Loops.{sum_left}
use Rattle.ends.proofs.Bounds.{any_back, ends_quiet, ends_late}
use Rattle.ends.proofs.quiet_end.Goals as goal

pub loop-i-init : goal.loop-i-init
unfolding any
loop-i-init c =
    let all : length c.args.words.now ≤ length c.args.deltas.now = omega (arith, c.requires.same) in
    (omega arith, rw (drop_of_length-le c.args.words.now all))

pub offset_bounds-words-i : goal.offset_bounds-words-i
offset_bounds-words-i c = omega (arith, c.loop-i.invariant.0, c.requires.same)

pub bounds-words-i : goal.bounds-words-i
bounds-words-i c = omega (arith, c.loop-i.invariant.0, c.requires.same)

pub returns-then-is_on : goal.returns-then-is_on
returns-then-is_on c t = absurd (false≢true t)

pub offset_bounds-deltas-i : goal.offset_bounds-deltas-i
offset_bounds-deltas-i c = omega (arith, c.loop-i.invariant.0)

pub bounds-deltas-i : goal.bounds-deltas-i
bounds-deltas-i c = omega (arith, c.loop-i.invariant.0)

pub returns-then-deltas-i-gt0 : goal.returns-then-deltas-i-gt0
returns-then-deltas-i-gt0 c t =
    let here = c.loop-i in
    let h : here.i - 1 < length c.args.deltas.now = omega (arith, here.invariant.0) in
    -- no note starts at the event gone back to
    let back : any is_on (drop (c.loop-i.i - 1) c.args.words.now) ≡ false =
    any_back c.args.words.now c.loop-i.i (omega arith) (omega (arith, c.loop-i.invariant.0, c.requires.same))
    (sym c.is_on.ensures ∙ c.if-is_on.false) c.loop-i.invariant.1 in
    ends_late c.requires (here.i - 1) back (omega (arith, sum_left c.args.deltas.now (here.i - 1) h, c.if-deltas-i-gt0.true))

pub loop-i-preserved : goal.loop-i-preserved
loop-i-preserved c =
    -- no note starts at the event gone back to
    let back : any is_on (drop (c.loop-i.i - 1) c.args.words.now) ≡ false =
    any_back c.args.words.now c.loop-i.i (omega arith) (omega (arith, c.loop-i.invariant.0, c.requires.same))
    (sym c.is_on.ensures ∙ c.if-is_on.false) c.loop-i.invariant.1 in
    (omega (arith, c.loop-i.invariant.0), back)

pub returns : goal.returns
returns c t =
    let none : c.loop-i.i ≡ 0 = omega arith in
    ends_quiet c.requires (rw none at c.loop-i.invariant.1)
