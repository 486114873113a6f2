-- What the answers mean: a number, or the values that document 01 asks for.
use Rattle.std.specs.Prelude.{ℕ, List, [], ◌∷◌}
use Rattle.std.specs.Prelude as std
use Rattle.rules.specs.Piece.{Event}
use Rattle.rules.specs.Refusals.{Result, unless, short_output}
use Rattle.rules.specs.Calls.{AutomationCounts}
use Rattle.rules.specs.Automation.{AutomationLists, automation_lists}
use Rattle.basics.specs.declared.Refusal.{Refusal}
use Rattle.basics.specs.Refusals.{told_by}
use Rattle.automation_events.specs.declared.Counts.{Counts}

abbrev pub as_counts : Counts → AutomationCounts
as_counts c = record { bends = c.bends; controllers = c.controllers; programs = c.programs; pressures = c.pressures }

abbrev pub automation_answer : std.Result Counts Refusal → Result AutomationCounts
automation_answer r = told_by as_counts r

-- what writing the automation of a part's track comes to, with this room
abbrev pub automation_outcome : ℕ → List Event → ℕ → ℕ → Result AutomationLists
automation_outcome p es room_ticks room_words =
    unless
    (short_output room_ticks (automation_lists p es).ticks ∷ short_output room_words (automation_lists p es).words ∷ [])
    (automation_lists p es)
