-- `find_all` puts the groups one after another.
use native.Mathlib.Omega.{arith}
use Rattle.laws.proofs.Refusals.{sizes_agree_lem}
use Rattle.loss_diagnostics.proofs.Groups.{all_found}
use Rattle.loss_diagnostics.proofs.find_all.Goals as goal

pub find_timecode-at-requires : goal.find_timecode-at-requires
find_timecode-at-requires c =
    omega (arith, (sizes_agree_lem _ c.requires.admitted.sizes).sizes)

pub find_off_measure-at-requires : goal.find_off_measure-at-requires
find_off_measure-at-requires c =
    let known = c.requires.admitted in
    (known, omega (arith, known.events, c.find_timecode-at.ensures.few))

pub system_events-at-requires : goal.system_events-at-requires
system_events-at-requires c =
    let known = c.requires.admitted in
    (known, omega (arith, known.events, c.find_timecode-at.ensures.few, c.find_off_measure-at.ensures.few))

pub unmatched_tracks-requires : goal.unmatched_tracks-requires
unmatched_tracks-requires c =
    let few = c.requires.admitted.events in
    (c.requires, omega (arith, few, c.find_timecode-at.ensures.few, c.find_off_measure-at.ensures.few, c.system_events-at.ensures.few))

pub returns : goal.returns
returns c =
    all_found _ c.requires.admitted.events c.find_timecode-at.ensures c.find_off_measure-at.ensures
    c.system_events-at.ensures c.unmatched_tracks.ensures
