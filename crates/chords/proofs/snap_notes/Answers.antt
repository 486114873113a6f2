-- `snap_notes`: snapped, sorted by places and fetched, the notes are the rules' sorted notes.
use native.Mathlib.Omega.{arith}
use borrow.Author.Rules.{rules}
use Rattle.chords.proofs.Sorting.{after_small, sorted_from}
use Rattle.chords.proofs.snap_notes.Goals as goal

pub fetch_notes-requires : goal.fetch_notes-requires
fetch_notes-requires c =
    (omega arith, c.requires.room, after_small c.requires c.snap_words.ensures c.sort_places.ensures)

pub returns : goal.returns
returns c =
    sorted_from c.requires c.snap_words.ensures c.sort_places.ensures
    c.fetch_notes.ensures (search rules)
