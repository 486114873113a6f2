-- `close_chord` holds the last chord against the notes, where there is one.
use Rattle.proofread_items.proofs.close_chord.Goals as goal

pub check_chord-requires : goal.check_chord-requires
check_chord-requires c = (c.requires.0, c.requires.1.within, rw c.in-Some.is at c.requires.1.before)
