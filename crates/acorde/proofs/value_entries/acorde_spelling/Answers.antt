-- `acorde_spelling`: what `midi_to_pitch` answers, case by case.
use mathlib.Core.Path.{sym, ap, ◌∙◌}
use Rattle.pitch.specs.Calls.{spelled_answer}
use Rattle.acorde.specs.Values.{spelling_entry}
use Rattle.acorde.proofs.value_entries.acorde_spelling.Goals as goal

pub returns-in-Ok : goal.returns-in-Ok
returns-in-Ok c =
    c.spelling_values.ensures
    ∙ ap spelling_entry (ap spelled_answer (sym c.in-Ok.is) ∙ c.midi_to_pitch.ensures)

pub returns-in-Err : goal.returns-in-Err
returns-in-Err c = rw c.from.ensures (ap spelling_entry (ap spelled_answer (sym c.in-Err.is) ∙ c.midi_to_pitch.ensures))
