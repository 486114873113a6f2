-- What is claimed of pairing: each on gives just one note.
use Rattle.std.specs.Prelude.{ℕ, not, List, map, ◌≡◌}
use Rattle.rules.specs.Lists.{keep, is_empty}
use Rattle.rules.specs.Piece.{Event, byte_a, byte_b, is_on}
use Rattle.rules.specs.RawNotes.{RawNote, raw_notes, has_notes}
use Rattle.laws.specs.Orders.{SameUpToOrder}

-- How a note begins: its start, key and channel.
pub record Onset : Type 0 where
  pub start : ℕ
  pub key : ℕ
  pub channel : ℕ

-- of a raw note, and of a note-on
abbrev pub note_onset : RawNote → Onset
note_onset n = record { start = n.start; key = n.key; channel = n.channel }

abbrev pub on_onset : Event → Onset
on_onset e = record { start = e.tick; key = byte_b e.word; channel = byte_a e.word }

-- a track's note-ons above velocity 0
abbrev pub ons_of : List Event → List Event
ons_of es = keep (λ (e : Event). is_on e.word) es

-- Each note-on above velocity 0 gives just one note: the raw notes begin as the ons do, each once.
abbrev pub OneNoteEach : Type 0
OneNoteEach = (es : List Event) → SameUpToOrder (map note_onset (raw_notes es)) (map on_onset (ons_of es))

-- A track has notes exactly if it has raw notes.
abbrev pub HasNotes : Type 0
HasNotes = (es : List Event) → has_notes es ≡ not (is_empty (raw_notes es))
