-- What is claimed of the starts still pending at a track's end: their order, in the Rust a hash map's, cannot reach a staff.
use Rattle.std.specs.Prelude.{ℕ, true, List, ◌++◌, map, ◌≡◌}
use Rattle.rules.specs.Lists.{All, sort_by, largest}
use Rattle.rules.specs.Piece.{Event, well_formed}
use Rattle.rules.specs.RawNotes.{NoteEvent, note_events, RawNote, raw_note, pairing, by_channel, by_start, last_tick, raw_notes}
use Rattle.rules.specs.Bars.{Bar}
use Rattle.rules.specs.Grid.{grid}
use Rattle.rules.specs.Voices.{chords, voices}
use Rattle.rules.specs.Staff.{engraved}
use Rattle.laws.specs.Orders.{SameUpToOrder}

-- the starts still pending at a track's end
abbrev pub unclosed : List Event → List NoteEvent
unclosed es = (pairing (note_events es)).pending

-- A track's raw notes where the starts still pending come in the order of us.
abbrev pub notes_in_order : List Event → List NoteEvent → List RawNote
notes_in_order es us = sort_by by_start ((pairing (note_events es)).closed ++ map (λ s. raw_note s (last_tick es)) us)

-- Document 01's order is by channel.
abbrev pub OrderByChannel : Type 0
OrderByChannel = (es : List Event) → raw_notes es ≡ notes_in_order es (sort_by by_channel (unclosed es))

-- Two lists of raw notes that no staff tells apart: their chords, voices, grid and staff are the same, and their largest end, to which bars go.
pub record OneStaff (ns ms : List RawNote) : Type 0 where
  pub in_chords : (g : ℕ) → chords g ns ≡ chords g ms
  pub in_voices : (g : ℕ) → voices g ns ≡ voices g ms
  pub in_grid : (p : ℕ) → grid p ns ≡ grid p ms
  pub in_end : largest (map (λ (n : RawNote). n.end) ns) ≡ largest (map (λ (n : RawNote). n.end) ms)
  pub in_staff : (p : ℕ) (bs : List Bar) → engraved p ns bs ≡ engraved p ms bs

-- In a track of well formed words, whatever the order of the starts still pending, no staff shows it.
abbrev pub OrderOfUnclosed : Type 0
OrderOfUnclosed = (es : List Event) (us : List NoteEvent) → All (λ (e : Event). well_formed e.word ≡ true) es
    → SameUpToOrder us (unclosed es) → OneStaff (notes_in_order es us) (raw_notes es)
