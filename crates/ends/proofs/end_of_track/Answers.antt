use mathlib.Core.Path.{◌∙◌}
use native.Mathlib.Omega.{arith}
use Rattle.rules.specs.Refusals.{most_events}
use Rattle.track_events.proofs.Tracks.{formed_at}
use Rattle.ends.specs.Pass.{nothing}
use Rattle.ends.proofs.Midway.{delta_at, within_more, midway_first, midway_next, midway_end, midway_clear}
use Rattle.ends.proofs.end_of_track.Goals as goal

pub loop-i-init : goal.loop-i-init
unfolding nothing
loop-i-init c = rw c.requires.0 (midway_first c.requires.1)

pub bounds-words-i : goal.bounds-words-i
bounds-words-i c =
    omega (arith, c.requires.1.same)

pub step-p-requires : goal.step-p-requires
step-p-requires c =
    let track = c.requires.1 in
    let i = c.loop-i.i in
    (delta_at track i (omega arith), formed_at track i (omega arith), within_more c.loop-i.invariant.within most_events (omega (arith, track.few)))

pub loop-i-preserved : goal.loop-i-preserved
loop-i-preserved c =
    rw c.step-p.ensures (midway_next c.requires.1 (omega arith) c.loop-i.invariant)

pub end_of-requires : goal.end_of-requires
end_of-requires c =
    midway_clear c.requires.1 (omega arith) c.loop-i.invariant

pub returns : goal.returns
returns c =
    record { end = c.end_of.ensures.end ∙ midway_end c.requires.1 (omega arith) c.loop-i.invariant; cleared = c.end_of.ensures.cleared }
