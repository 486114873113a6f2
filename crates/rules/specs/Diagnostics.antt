-- Section 10, Diagnostics.
use Rattle.std.specs.Prelude.{ℕ, suc, ◌+◌, ◌*◌, ◌/◌, ◌%◌, ◌^◌, Bool, cond, not, ◌&&◌, ◌||◌, List, [], ◌∷◌, ◌++◌, map, eqb, ltb}
use Rattle.rules.specs.Lists.{keep, first_or, sort_by}
use Rattle.rules.specs.Piece.{Piece, Event, tracks, first_track, timecode, ticks_per_quarter, is_kind}
use Rattle.rules.specs.RawNotes.{NoteEvent, note_events, pairing, by_channel}
use Rattle.rules.specs.Changes.{Change, Meter, common_time, meter_changes}

pub record Diagnostic : Type 0 where
  pub code : ℕ
  pub track : ℕ
  pub event : ℕ
  pub tick : ℕ
  pub channel : ℕ
  pub key : ℕ

-- A channel or key that is absent.
abbrev pub absent : ℕ
absent = 255

-- place = code × 2^48 + track × 2^32 + event, detail = tick × 2^16 + channel × 2^8 + key
abbrev pub place_of : Diagnostic → ℕ
place_of d = d.code * 2 ^ 48 + d.track * 2 ^ 32 + d.event

abbrev pub detail_of : Diagnostic → ℕ
detail_of d = d.tick * 2 ^ 16 + d.channel * 2 ^ 8 + d.key

-- 1: timecode; its place is otherwise 0, its tick 0.
abbrev pub timecode_found : Piece → List Diagnostic
timecode_found x =
    cond (timecode x) (record { code = 1; track = 0; event = 0; tick = 0; channel = absent; key = absent } ∷ []) []

-- a diagnostic at an event, with no channel and key
abbrev pub at_event : ℕ → ℕ → Event → Diagnostic
at_event code track e =
    record { code = code; track = track; event = e.number; tick = e.tick; channel = absent; key = absent }

-- The first meter at any tick, else 4/4, and its length, which may be 0.
abbrev pub any_meter : Piece → Meter
any_meter x = first_or common_time (map (λ (c : Change Meter). c.to) (meter_changes (first_track x)))

abbrev pub any_meter_length : Piece → ℕ
any_meter_length x = 4 * ticks_per_quarter x * (any_meter x).upper / (any_meter x).lower

-- 2: a tempo or meter event of the first track after tick 0 and not at a multiple of the first meter's length; length 0 gives none.
abbrev pub is_off_measure : ℕ → Event → Bool
is_off_measure l e =
    (is_kind 2 e.word || is_kind 3 e.word) && ltb 0 e.tick && not (eqb (e.tick % l) 0) && not (eqb l 0)

abbrev pub off_measure_found : Piece → List Diagnostic
off_measure_found x = map (at_event 2 0) (keep (is_off_measure (any_meter_length x)) (first_track x))

-- what is found in each track, from track number n on
unfoldable pub in_tracks : (ℕ → List Event → List Diagnostic) → ℕ → List (List Event) → List Diagnostic
in_tracks f n [] = []
in_tracks f n (es ∷ ess) = f n es ++ in_tracks f (suc n) ess

-- 3: a system event.
abbrev pub system_found : ℕ → List Event → List Diagnostic
system_found track es = map (at_event 3 track) (keep (λ (e : Event). is_kind 1 e.word) es)

-- 4: an off without on; its key is absent.
abbrev pub unmatched_off : ℕ → NoteEvent → Diagnostic
unmatched_off track n =
    record { code = 4; track = track; event = n.number; tick = n.tick; channel = n.channel; key = absent }

-- 5: an on without off, at its start.
abbrev pub unmatched_on : ℕ → NoteEvent → Diagnostic
unmatched_on track n =
    record { code = 5; track = track; event = n.number; tick = n.tick; channel = n.channel; key = n.key }

-- 4 in event order, followed by 5 by channel, key, arrival.
abbrev pub unmatched_found : ℕ → List Event → List Diagnostic
unmatched_found track es =
    map (unmatched_off track) (pairing (note_events es)).unmatched
    ++ map (unmatched_on track) (sort_by by_channel (pairing (note_events es)).pending)

-- Groups 1, 2, 3; then, track by track, 4 followed by 5.
unfoldable pub diagnostics : Piece → List Diagnostic
diagnostics x =
    timecode_found x ++ (off_measure_found x ++ (in_tracks system_found 0 (tracks x) ++ in_tracks unmatched_found 0 (tracks x)))
