-- The starts of raw notes that pass a test are as many as the ons that do: the notes begin as the ons do, in some order.
use mathlib.Core.Bool.{Bool}
use mathlib.Core.Path.{sym, ◌∙◌}
use Rattle.rules.specs.Piece.{Event, is_on}
use Rattle.rules.specs.RawNotes.{RawNote, raw_notes}
use Rattle.laws.specs.Notes.{Onset, note_onset, on_onset, ons_of}
use Rattle.laws.proofs.Notes.{one_note_each}
use Rattle.laws.proofs.Orders.{order_tally}
use Rattle.laws.proofs.Tests.{tally_keeps, tally_map, tally_kept}
use Rattle.grid.specs.Counts.{StartCounts}

pub start_counts : StartCounts
start_counts f es =
    let passes : Onset → Bool = λ o. f o.start in
    tally_keeps (λ (n : RawNote). f n.start) (raw_notes es)
    ∙ sym (tally_map passes note_onset (raw_notes es))
    ∙ order_tally passes (one_note_each es)
    ∙ tally_map passes on_onset (ons_of es)
    ∙ tally_kept (λ (e : Event). f e.tick) (λ (e : Event). is_on e.word) es
    ∙ sym (tally_keeps _ es)
