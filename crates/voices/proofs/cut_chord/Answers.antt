-- `cut_chord` puts the chord with another end.
use Rattle.chords.specs.Columns.{chord_of}
use Rattle.chords.proofs.Stores.{stored_as}
use Rattle.voices.specs.Placing.{ending_at}
use Rattle.voices.proofs.cut_chord.Goals as goal

pub returns : goal.returns
returns c =
    let read = c.chord_at-c in
    stored_as (ending_at c.args.end) (chord_of read.result) read.ensures c.put_chord.ensures
