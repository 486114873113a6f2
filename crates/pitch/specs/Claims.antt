-- What holds of the spelling of every key, those above 127 too: it sounds that key, with sharps and with flats.
use Rattle.std.specs.Prelude.{ℕ, ◌≡◌, Bool, pos, Ok}
use Rattle.rules.specs.Spelling.{spelled_either, sounds}
use Rattle.pitch.specs.Calls.{spelling_of, spelled_answer, either_call}
use Rattle.pitch.specs.declared.Pitch.{Pitch}

abbrev pub SoundsItsKey : Type 0
SoundsItsKey = (key : ℕ) (prefer_flat : Bool) → sounds (spelled_either key prefer_flat) ≡ pos key

-- So `to_midi` undoes `from_midi`: this is what their contracts say of any pitch that is answered.
abbrev pub Undone : Type 0
Undone = (key : ℕ) (prefer_flat : Bool) (p : Pitch) → spelled_answer (Ok p) ≡ either_call key prefer_flat → sounds (spelling_of p) ≡ pos key
