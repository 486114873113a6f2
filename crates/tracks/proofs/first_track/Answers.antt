-- `first_track` answers the first track, whatever arrays agree with the sizes: the laws are in Cuts.
use Rattle.tracks.proofs.Cuts.{first_none, first_some}
use Rattle.tracks.proofs.first_track.Goals as goal

pub returns-then-sizes-lt3 : goal.returns-then-sizes-lt3
returns-then-sizes-lt3 c = first_none _ c.if-sizes-lt3.true

pub returns : goal.returns
returns c = first_some _ c.if-sizes-lt3.false
