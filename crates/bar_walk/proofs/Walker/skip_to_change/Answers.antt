use mathlib.Core.Path.{◌≡◌, sym, ◌∙◌}
use native.Mathlib.Omega.{arith}
use lib.ListN.{length}
use Rattle.bar_walk.proofs.SkipLaws.{skipping_start, skipping_on, skipped_late, skipped_change, skipped_end}
use Rattle.bar_walk.proofs.Walker.skip_to_change.Goals as goal
use Rattle.bar_walk.proofs.Walker.skip_to_change.Goals.{then-self-next-via-then-self-next, then-self-next-via-else-self-next+then-is_change}

pub loop-at-init : goal.loop-at-init
loop-at-init c = skipping_start c.requires.taking

pub overflow_add-next : goal.overflow_add-next
overflow_add-next c =
    omega (arith, c.loop-at.invariant.taking.reached, c.requires.start)

pub bounds-words-at : goal.bounds-words-at
bounds-words-at c = omega (arith, c.requires.track.same)

pub loop-at-preserved : goal.loop-at-preserved
loop-at-preserved c =
    let track = c.requires.track in
    skipping_on c.loop-at.invariant track c.loop-at-test.true c.if-self-next.false (sym c.is_change.ensures ∙ c.if-is_change.false)

pub returns-then-self-next : goal.returns-then-self-next
returns-then-self-next c =
    let at = c.loop-at in
    let track = c.requires.track in
    elim c.then-self-next.branch [
      | then-self-next-via-then-self-next w ↦ skipped_late at.invariant track c.loop-at-test.true w.if-self-next.true
      | then-self-next-via-else-self-next+then-is_change w ↦
          skipped_change at.invariant track c.loop-at-test.true (sym w.is_change.ensures ∙ w.if-is_change.true)
    ]

pub returns : goal.returns
returns c =
    let all : c.loop-at.at ≡ length c.args.deltas.now = omega (arith, c.loop-at.invariant.taking.within) in
    rw all at (skipped_end c.loop-at.invariant c.requires.track c.loop-at-test.false)
