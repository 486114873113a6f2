-- `bar_source`: each field by the call that gave it.
use Rattle.bar_source.proofs.bar_source.Goals as goal

pub returns : goal.returns
returns c =
    record {
      quarter = c.ticks_per_quarter.ensures;
      end = c.end_of_piece.ensures;
      first = c.first_track-track.ensures _ _ c.requires.sizes;
    }
