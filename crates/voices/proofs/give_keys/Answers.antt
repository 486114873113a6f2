-- `give_keys` puts the chord with more keys.
use Rattle.chords.specs.Columns.{keys_of, chord_of}
use Rattle.chords.proofs.Stores.{stored_as}
use Rattle.voices.specs.Placing.{with_keys}
use Rattle.voices.proofs.give_keys.Goals as goal

pub returns : goal.returns
returns c =
    let read = c.chord_at-last in
    stored_as (with_keys (keys_of c.args.c.keys)) (chord_of read.result) read.ensures
    (rw c.all_keys-keys.ensures at c.put_chord.ensures)
