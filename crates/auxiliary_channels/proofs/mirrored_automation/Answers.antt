use mathlib.Core.Path.{refl, sym, ◌∙◌}
use native.Mathlib.Omega.{arith}
use Rattle.auxiliary_channels.proofs.MirrorLaws.{place_tick, place_start, place_behind, same_inside}
use Rattle.auxiliary_channels.proofs.MirrorLaws.{abreast_differ, abreast_more, abreast_end}
use Rattle.auxiliary_channels.proofs.mirrored_automation.Goals as goal

pub next_of-x-requires : goal.next_of-x-requires
next_of-x-requires c = (c.requires, place_start refl refl)

pub next_of-y-requires : goal.next_of-y-requires
next_of-y-requires c = (c.requires, place_start refl refl)

pub returns-then-not-same_message : goal.returns-then-not-same_message
returns-then-not-same_message c =
    abreast_differ c.requires c.loop-x.invariant (rw (← c.requires.same) c.loop-x-test.true)
    (sym c.same_message.ensures ∙ c.if-not-same_message.true)

pub behind-requires : goal.behind-requires
behind-requires c =
    (rw (← c.requires.same) c.loop-x-test.true, place_tick c.requires c.loop-x.invariant.at_base.place)

pub next_of-x-requires-in-loop-x : goal.next_of-x-requires-in-loop-x
next_of-x-requires-in-loop-x c =
    let track = c.requires in
    (track, place_behind track c.loop-x.invariant.at_base.place (rw (← track.same) c.loop-x-test.true) c.behind.ensures)

pub behind-requires-in-loop-x : goal.behind-requires-in-loop-x
behind-requires-in-loop-x c =
    let inside = same_inside c.args.deltas.now c.args.words.now c.loop-x.x c.loop-x.y
    (sym c.same_message.ensures ∙ c.if-not-same_message.false) in
    (inside, place_tick c.requires c.loop-x.invariant.at_spare.place)

pub next_of-y-requires-in-loop-x : goal.next_of-y-requires-in-loop-x
next_of-y-requires-in-loop-x c =
    let track = c.requires in
    let inside = same_inside c.args.deltas.now c.args.words.now c.loop-x.x c.loop-x.y
    (sym c.same_message.ensures ∙ c.if-not-same_message.false) in
    (track, place_behind track c.loop-x.invariant.at_spare.place inside c.behind-in-loop-x.ensures)

pub loop-x-preserved : goal.loop-x-preserved
loop-x-preserved c =
    let track = c.requires in
    abreast_more
    track
    c.loop-x.invariant
    (rw (← track.same) c.loop-x-test.true)
    (sym c.same_message.ensures ∙ c.if-not-same_message.false)
    c.behind.ensures
    c.next_of-x-in-loop-x.ensures
    c.behind-in-loop-x.ensures
    c.next_of-y-in-loop-x.ensures

pub returns : goal.returns
returns c =
    abreast_end c.requires c.loop-x.invariant (omega (arith, c.loop-x-test.false, c.requires.same))
