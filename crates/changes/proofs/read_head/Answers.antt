use Prim.Native.Nat.{◌<◌}
use native.Mathlib.Omega.{arith}
use lib.ListN.{length}
use Rattle.track_events.specs.Track.{left}
use Rattle.track_events.proofs.Tracks.{formed_at, left_none}
use Rattle.changes.proofs.HeadLaws.{reads_start, reads_next, reads_end, left_late}
use Rattle.changes.proofs.read_head.Goals as goal

pub loop-i-init : goal.loop-i-init
loop-i-init c = reads_start _

pub returns-then-deltas-i-gt0 : goal.returns-then-deltas-i-gt0
returns-then-deltas-i-gt0 c =
    let at = c.loop-i in
    let ds = c.args.deltas.now in
    let ws = c.args.words.now in
    let here : at.i < length ds = omega arith in
    let there : at.i < length ws = omega (arith, c.requires.same) in
    rw c.done.ensures (reads_end _ _ (left_late ds ws at.i here there c.if-deltas-i-gt0.true) at.read at.invariant)

pub bounds-words-i : goal.bounds-words-i
bounds-words-i c =
    omega (arith, c.requires.same)

pub take-read-requires : goal.take-read-requires
take-read-requires c =
    formed_at c.requires c.loop-i.i (omega arith)

pub loop-i-preserved : goal.loop-i-preserved
loop-i-preserved c =
    let at = c.loop-i in
    let ds = c.args.deltas.now in
    let ws = c.args.words.now in
    let here : at.i < length ds = omega arith in
    let there : at.i < length ws = omega (arith, c.requires.same) in
    rw c.take-read.ensures (reads_next ds ws at.i here there _ at.read c.if-deltas-i-gt0.false at.invariant)

pub returns : goal.returns
returns c =
    let at = c.loop-i in
    let ds = c.args.deltas.now in
    let ws = c.args.words.now in
    rw c.done-2.ensures
    (reads_end _ (left 0 at.i ds ws) (rw (left_none 0 at.i ds ws c.loop-i-test.false) tt) at.read at.invariant)
