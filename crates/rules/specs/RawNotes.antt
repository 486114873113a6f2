-- Section 2, Raw notes: pairing of ons and offs, the notes' order, the parts.
use Rattle.std.specs.Prelude.{ℕ, ◌+◌, ◌*◌, max, Bool, cond, ◌&&◌, ◌||◌, eqb, length, take}
use mathlib.Core.List.{List, [], ◌∷◌, ◌++◌, map, foldl, head?}
use Rattle.std.proofs.Math.Option.{Option, none, some}
use Rattle.rules.specs.Lists.{keep, any, last_or, sort_by, largest}
use Rattle.rules.specs.Piece.{Piece, Event, tracks, byte_a, byte_b, is_on, is_off}

-- A note event: an on above velocity 0, or an off. It has its event's number.
pub record NoteEvent : Type 0 where
  pub number : ℕ
  pub tick : ℕ
  pub channel : ℕ
  pub key : ℕ
  pub on : Bool

abbrev pub note_event : Event → NoteEvent
note_event e = record { number = e.number; tick = e.tick; channel = byte_a e.word; key = byte_b e.word; on = is_on e.word }

abbrev pub note_events : List Event → List NoteEvent
note_events es = map note_event (keep (λ e. is_on e.word || is_off e.word) es)

-- Document 01's raw note: source ticks, key and channel.
pub record RawNote : Type 0 where
  pub start : ℕ
  pub end : ℕ
  pub key : ℕ
  pub channel : ℕ

-- the note of a start that ends at tick t: the end is at least start + 1
abbrev pub raw_note : NoteEvent → ℕ → RawNote
raw_note s t = record { start = s.tick; end = max t (s.tick + 1); key = s.key; channel = s.channel }

-- Pairing so far: the starts still pending, oldest first; the notes closed, in order of closing; the offs that found nothing pending.
pub record Pairing : Type 0 where
  pub pending : List NoteEvent
  pub closed : List RawNote
  pub unmatched : List NoteEvent

abbrev pub same_key : NoteEvent → NoteEvent → Bool
same_key m n = eqb m.channel n.channel && eqb m.key n.key

-- the list without the oldest start of n's channel and key
unfoldable pub without_oldest : NoteEvent → List NoteEvent → List NoteEvent
without_oldest n [] = []
without_oldest n (s ∷ ss) = cond (same_key n s) ss (s ∷ without_oldest n ss)

-- An off takes the oldest pending start of its channel and key; with nothing pending it makes no note.
abbrev pub take_off : NoteEvent → Pairing → Option NoteEvent → Pairing
take_off n x none = record { pending = x.pending; closed = x.closed; unmatched = x.unmatched ++ (n ∷ []) }
take_off n x (some s) =
    record { pending = without_oldest n x.pending; closed = x.closed ++ (raw_note s n.tick ∷ []); unmatched = x.unmatched }

abbrev pub take_on : NoteEvent → Pairing → Pairing
take_on n x = record { pending = x.pending ++ (n ∷ []); closed = x.closed; unmatched = x.unmatched }

unfoldable pub pair_one : Pairing → NoteEvent → Pairing
pair_one x n = cond n.on (take_on n x) (take_off n x (head? (keep (same_key n) x.pending)))

abbrev pub no_pairs : Pairing
no_pairs = record { pending = []; closed = []; unmatched = [] }

abbrev pub pairing : List NoteEvent → Pairing
pairing ns = foldl pair_one no_pairs ns

-- channel, then key, as one number: keys are below 128
abbrev pub by_channel : NoteEvent → ℕ
by_channel n = n.channel * 128 + n.key

-- start, then key, as one number
abbrev pub by_start : RawNote → ℕ
by_start n = n.start * 128 + n.key

-- The raw notes of note events and a last tick: starts still pending end at that tick, or start + 1. Order: start, key; equal ones in order of
-- closing, unclosed last by channel.
unfoldable pub raw_notes_of : List NoteEvent → ℕ → List RawNote
raw_notes_of ns last =
    sort_by by_start ((pairing ns).closed ++ map (λ s. raw_note s last) (sort_by by_channel (pairing ns).pending))

-- a track's last tick: its last event's
abbrev pub last_tick : List Event → ℕ
last_tick es = last_or 0 (map (λ (e : Event). e.tick) es)

abbrev pub raw_notes : List Event → List RawNote
raw_notes es = raw_notes_of (note_events es) (last_tick es)

-- A track has notes if it has an on above velocity 0: each gives one note.
abbrev pub has_notes : List Event → Bool
has_notes es = any (λ (e : Event). is_on e.word) es

-- The most parts.
abbrev pub most_parts : ℕ
most_parts = 32

-- Parts: the first 32 tracks that have notes, numbered from 0.
abbrev pub parts : Piece → List (List Event)
parts x = take most_parts (keep has_notes (tracks x))

-- N of document 01's number 8: the most note-ons above velocity 0 in one track.
unfoldable pub most_notes : Piece → ℕ
most_notes x = largest (map (λ es. length (keep (λ (e : Event). is_on e.word) es)) (tracks x))
