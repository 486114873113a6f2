use mathlib.Core.Path.{refl, sym, ◌∙◌}
use Rattle.auxiliary_channels.proofs.MirrorLaws.{place_tick, seeking_more}
use Rattle.auxiliary_channels.proofs.Place.next_of.Goals as goal

pub after-tick-requires : goal.after-tick-requires
after-tick-requires c = place_tick c.requires.0 c.loop-at.invariant.place

pub loop-at-preserved : goal.loop-at-preserved
loop-at-preserved c =
    let track = c.requires.0 in
    seeking_more track c.loop-at.invariant (rw (← track.same) c.loop-at-test.true) (record { at = refl; tick = c.after-tick.ensures })
    (sym c.is_automation_of.ensures ∙ c.if-is_automation_of.false)
