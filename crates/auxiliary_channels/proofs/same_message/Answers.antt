-- `same_message` compares the ticks and then the messages of two events: both are in the track.
use Rattle.auxiliary_channels.proofs.MirrorLaws.{place_tick}
use Rattle.auxiliary_channels.proofs.same_message.Goals as goal

pub after-first-requires : goal.after-first-requires
after-first-requires c = place_tick c.requires.track c.requires.first

pub after-second-requires : goal.after-second-requires
after-second-requires c = place_tick c.requires.track c.requires.second
