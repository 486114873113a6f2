use Prim.Native.Nat.{◌≤◌}
use mathlib.Core.Path.{sym, ◌∙◌}
use native.Mathlib.Omega.{arith}
use lib.ListN.{length, drop_of_length-le}
use Rattle.rules.specs.Lists.{any}
use Rattle.tracks.proofs.Cuts.{any_here}
use Rattle.tracks.proofs.has_notes.Goals as goal

pub returns-then-is_on : goal.returns-then-is_on
returns-then-is_on c =
    let here = c.loop-word in
    let one = any_here c.args.words.now here.word-index (omega arith) in
    sym (sym here.invariant ∙ one ∙ rw (sym c.is_on.ensures ∙ c.if-is_on.true))

pub loop-word-preserved : goal.loop-word-preserved
loop-word-preserved c =
    let here = c.loop-word in
    let one = any_here c.args.words.now here.word-index (omega arith) in
    let off = sym c.is_on.ensures ∙ c.if-is_on.false in
    sym (rw off at one) ∙ here.invariant

pub returns : goal.returns
unfolding any
returns c =
    let here = c.loop-word in
    let words = c.args.words.now in
    let all : length words ≤ here.word-index = omega arith in
    sym (sym here.invariant ∙ rw (drop_of_length-le words all))
