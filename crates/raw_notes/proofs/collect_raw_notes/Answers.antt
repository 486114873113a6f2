-- `collect_raw_notes` has the raw notes of a track in columns 0 and 1: paired, closed, sorted by their places, and gathered.
use native.Mathlib.Omega.{arith}
use Rattle.pairing.proofs.Grids.{zeros_grid, zeros_empty}
use Rattle.raw_notes.proofs.Gathering.{places_small, collected}
use Rattle.raw_notes.proofs.collect_raw_notes.Goals as goal

pub pair_track-s-requires : goal.pair_track-s-requires
pair_track-s-requires c =
    let p = c.requires in
    record { track = p.0; heads = zeros_empty; tails = zeros_grid; area = p.2; ons = p.1 }

pub gather-requires : goal.gather-requires
gather-requires c =
    let p = c.pair_track-s.ensures.pairs.queues in (
      p.room,
      omega (arith, p.area, c.close_pending.auto.work, c.sort_places.auto.v),
      places_small c.sort_places.ensures p.room,
    )

pub returns : goal.returns
returns c =
    let p = c.pair_track-s.ensures in
    collected p (c.close_pending.ensures _ _ p.pairs) c.sort_places.ensures c.gather.ensures
