-- `put_note` puts the two words of a note behind those that are there.
use native.Mathlib.Omega.{arith}
use Rattle.raw_notes.proofs.Listing.{note_put}
use Rattle.raw_notes.proofs.put_note.Goals as goal

pub returns : goal.returns
returns c = rw c.max-end.ensures (note_put _ _ _ _ (omega arith) (omega arith))
