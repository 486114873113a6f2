-- The raw notes of a track stand in their columns and are in range: what a reader of the work area asks.
use Prim.Native.Nat.{ℕ, ◌^◌}
use mathlib.Core.List.{List}
use native.Mathlib.Omega.{arith}
use Rattle.rules.specs.Lists.{All}
use Rattle.rules.specs.RawNotes.{raw_notes}
use Rattle.laws.specs.NoteWords.{NotesIn, InRange}
use Rattle.track_events.specs.Track.{Track, events_of}
use Rattle.track_events.proofs.Ranges.{track_notes}
use Rattle.raw_notes.specs.Columns.{Noted}

pub notes_ready : {ds ws : List ℕ} {n r : ℕ} {w : List ℕ} → Track ds ws → Noted (events_of ds ws) n r w
    → NotesIn (raw_notes (events_of ds ws)) n r w × All (InRange (2 ^ 47)) (raw_notes (events_of ds ws))
notes_ready track p = (
  record { all = p.count; room = omega (arith, p.count, p.room); ends = p.ends; starts = p.starts },
  track_notes track,
)
