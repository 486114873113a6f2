-- A third table of examples: kinds at their edges, heads and marks, automation, diagnostics.
use Rattle.std.specs.Prelude.{ℕ, ◌+◌, ◌*◌, ◌^◌, true, false, eqb, pos, negsuc, ◌≡◌, refl}
use mathlib.Core.List.{List, [], ◌∷◌, ◌++◌, map, flat_map}
use Rattle.std.proofs.Math.Option.{Option, none, some}
use Rattle.rules.specs.Lists.{keep, any, insert, sort_by, flag}
use Rattle.rules.specs.Piece.{Piece, piece, ticks_per_quarter, timed, cut_tracks, first_track, well_formed, word}
use Rattle.rules.specs.RawNotes.{without_oldest, pair_one, raw_notes_of}
use Rattle.rules.specs.Changes.{Key, Head, head, PartHead, part_head}
use Rattle.rules.specs.Bars.{bars_from, end_of_piece, bars_up_to, starts, mark_of, printed_from, marks_from, marks}
use Rattle.rules.specs.Bars.{mark_upper, mark_lower, mark_printed, mark_tempo, mark_fifths, mark_minor}
use Rattle.rules.specs.Automation.{AutomationLists, automation_lists, cancelled, same_messages, is_dropped}
use Rattle.rules.specs.Diagnostics.{Diagnostic, diagnostics, in_tracks}
use Rattle.rules.specs.Calls.{places, details}
use Rattle.rules.specs.Examples.{Row, row, given, wanted, signed, meter}
use Rattle.rules.specs.FurtherExamples.{one_track}

-- ---- section 1: the table of kinds at its edges

abbrev pub taken : List ℕ → List ℕ
taken ws = map (λ w. flag (well_formed w)) ws

-- a kind with nothing in its bytes, and with 1 in each of them
abbrev pub plain_kind : ℕ → List ℕ
plain_kind k = word k 0 0 0 ∷ word k 1 0 0 ∷ word k 0 1 0 ∷ word k 0 0 1 ∷ []

-- a kind of a channel and two data bytes: all at their largest, and each one above it
abbrev pub two_data : ℕ → List ℕ
two_data k = word k 0 0 0 ∷ word k 15 127 127 ∷ word k 16 0 0 ∷ word k 0 128 0 ∷ word k 0 0 128 ∷ []

-- a kind of a channel and one data byte
abbrev pub one_data : ℕ → List ℕ
one_data k = word k 0 0 0 ∷ word k 15 127 0 ∷ word k 16 0 0 ∷ word k 0 128 0 ∷ word k 0 0 1 ∷ []

-- ---- section 3: heads

-- what is absent has no figures
abbrev pub key_row : Option Key → List ℕ
key_row none = []
key_row (some k) = signed k.fifths ++ (flag k.minor ∷ [])

abbrev pub head_row : Head → List ℕ
head_row h = h.tempo ∷ h.meter.upper ∷ h.meter.lower ∷ key_row h.key

abbrev pub part_head_row : PartHead → List ℕ
part_head_row h = h.channel ∷ h.program ∷ []

-- tempo 0, then 400,000 and 500,000; 3/4, then 2/4; three flats minor, then two sharps; all at tick 0
abbrev pub many_changes : Piece
many_changes =
    one_track (0 ∷ 0 ∷ 0 ∷ 0 ∷ 0 ∷ 0 ∷ 0 ∷ [])
    ((2 * 2 ^ 24)
    ∷ (2 * 2 ^ 24 + 400000)
    ∷ (2 * 2 ^ 24 + 500000)
    ∷ word 3 3 2 0
    ∷ word 3 2 2 0
    ∷ word 4 253 1 0
    ∷ word 4 2 0 0
    ∷ [])

-- the same kinds, later
abbrev pub later_changes : Piece
later_changes = one_track (1 ∷ 0 ∷ 0 ∷ []) ((2 * 2 ^ 24 + 400000) ∷ word 3 3 2 0 ∷ word 4 2 0 0 ∷ [])

-- fifths beyond seven on both sides
abbrev pub far_key : ℕ → Piece
far_key a = one_track (0 ∷ []) (word 4 a 0 0 ∷ [])

-- a program change after a note, then another
abbrev pub programs : Piece
programs =
    one_track (0 ∷ 10 ∷ 10 ∷ 10 ∷ []) (word 9 2 60 64 ∷ word 12 3 40 0 ∷ word 12 2 41 0 ∷ word 8 2 60 0 ∷ [])

-- ---- section 4: marks

-- tempos at 0, 1920 (twice) and 2000; keys at 0 (twice), 2000 and 3840; a note to 5000
abbrev pub marked : Piece
marked =
    one_track (0 ∷ 0 ∷ 0 ∷ 0 ∷ 1920 ∷ 0 ∷ 80 ∷ 0 ∷ 1840 ∷ 1160 ∷ [])
    ((2 * 2 ^ 24 + 400000)
    ∷ word 4 1 0 0
    ∷ word 4 255 1 0
    ∷ word 9 0 60 64
    ∷ (2 * 2 ^ 24 + 500000)
    ∷ (2 * 2 ^ 24 + 600000)
    ∷ (2 * 2 ^ 24 + 700000)
    ∷ word 4 3 0 0
    ∷ word 4 249 0 0
    ∷ word 8 0 60 0
    ∷ [])

-- at 1 tick per quarter bars of 1/128 have one tick: a tempo at the second
abbrev pub short_bars : Piece
short_bars = piece (1 ∷ 1 ∷ 4 ∷ []) (0 ∷ 0 ∷ 1 ∷ 2 ∷ []) (word 3 1 7 0 ∷ word 9 0 60 64 ∷ (2 * 2 ^ 24 + 500000) ∷ word 8 0 60 0 ∷ [])

-- a mark's fields, read back: figures, printed, tempo, fifths + 8, minor
abbrev pub field_row : ℕ → List ℕ
field_row m = mark_upper m ∷ mark_lower m ∷ mark_printed m ∷ mark_tempo m ∷ mark_fifths m ∷ mark_minor m ∷ []

-- ---- section 9: automation

abbrev pub automation_row : Piece → List ℕ
automation_row x =
    let a : AutomationLists = automation_lists (ticks_per_quarter x) (first_track x) in
    a.bends ∷ a.controllers ∷ a.programs ∷ a.pressures ∷ (a.ticks ++ a.words)

-- channels 0 and 1 have a controller and a bend each, at the same ticks or not; markers stand before them
abbrev pub mirrored : List ℕ → ℕ → Piece
mirrored ms t =
    one_track (map (λ m. 0) ms ++ (10 ∷ 0 ∷ 10 ∷ t ∷ []))
    (ms ++ (word 11 0 7 100 ∷ word 11 1 7 100 ∷ word 14 0 1 64 ∷ word 14 1 1 64 ∷ []))

-- bends, controllers, programs, pressures of keys and channels, in another order
abbrev pub all_kinds : Piece
all_kinds =
    one_track (1 ∷ 1 ∷ 1 ∷ 1 ∷ 1 ∷ 1 ∷ [])
    (word 13 0 5 0 ∷ word 12 0 6 0 ∷ word 11 0 7 8 ∷ word 10 0 60 9 ∷ word 14 0 0 64 ∷ word 9 0 60 64 ∷ [])

abbrev pub both_kept : List ℕ
both_kept =
    2 ∷ 2 ∷ 0 ∷ 0 ∷ 20 ∷ 20 ∷ 10 ∷ 10 ∷ word 14 0 1 64 ∷ word 14 1 1 64 ∷ word 11 0 7 100 ∷ word 11 1 7 100 ∷ []

abbrev pub base_kept : List ℕ
base_kept = 1 ∷ 1 ∷ 0 ∷ 0 ∷ 20 ∷ 10 ∷ word 14 0 1 64 ∷ word 11 0 7 100 ∷ []

-- ---- section 10: diagnostics

-- code, track, event, tick, channel, key of each
abbrev pub found_row : List Diagnostic → List (List ℕ)
found_row [] = []
found_row (d ∷ ds) = (d.code ∷ d.track ∷ d.event ∷ d.tick ∷ d.channel ∷ d.key ∷ []) ∷ found_row ds

-- timecode; a tempo at 1920, one at 1921 and 4/4 at 1922; two system events; offs without on and ons without off in two tracks
abbrev pub every_code : Piece
every_code =
    record {
      sizes = 65408 ∷ 2 ∷ 6 ∷ 5 ∷ [];
      deltas = 0 ∷ 1920 ∷ 1 ∷ 1 ∷ 0 ∷ 1 ∷ (3 ∷ 0 ∷ 0 ∷ 0 ∷ 4 ∷ []);
      words =
          word 9 1 60 64
          ∷ (2 * 2 ^ 24 + 500000)
          ∷ (2 * 2 ^ 24 + 500000)
          ∷ word 3 4 2 0
          ∷ word 1 0 0 0
          ∷ word 8 2 60 0
          ∷ (word 9 1 50 64 ∷ word 9 0 70 64 ∷ word 9 0 60 64 ∷ word 1 0 0 0 ∷ word 8 0 61 0 ∷ []);
    }

-- two ons without off: channel 1, key 0, then channel 0, key 127
abbrev pub by_channels : Piece
by_channels = one_track (0 ∷ 0 ∷ []) (word 9 1 0 64 ∷ word 9 0 127 64 ∷ [])

-- with an upper figure 0 the first meter has no length
abbrev pub no_length : Piece
no_length = one_track (0 ∷ 7 ∷ 0 ∷ []) (word 3 0 2 0 ∷ (2 * 2 ^ 24 + 500000) ∷ word 3 4 2 0 ∷ [])

-- the first meter of any tick counts: 2/4, so 960 is a multiple and 1000 none
abbrev pub late_meter : Piece
late_meter = one_track (960 ∷ 40 ∷ []) (word 3 2 2 0 ∷ (2 * 2 ^ 24 + 500000) ∷ [])

pub events : List Row
events =
    -- other meta, system event, end of track: no byte is used
    row (taken (plain_kind 0)) (1 ∷ 0 ∷ 0 ∷ 0 ∷ [])
    ∷ row (taken (plain_kind 1)) (1 ∷ 0 ∷ 0 ∷ 0 ∷ [])
    ∷ row (taken (plain_kind 6)) (1 ∷ 0 ∷ 0 ∷ 0 ∷ [])
    -- tempo: any 24 bits
    ∷ row (taken (word 2 0 0 0 ∷ word 2 255 255 255 ∷ [])) (1 ∷ 1 ∷ [])
    -- meter: any upper figure, power 0 to 7
    ∷ row (taken (word 3 0 0 0 ∷ word 3 255 7 0 ∷ word 3 4 8 0 ∷ word 3 4 2 1 ∷ [])) (1 ∷ 1 ∷ 0 ∷ 0 ∷ [])
    -- key: any fifths, minor 0 or 1
    ∷ row (taken (word 4 0 0 0 ∷ word 4 255 1 0 ∷ word 4 0 2 0 ∷ word 4 0 0 1 ∷ [])) (1 ∷ 1 ∷ 0 ∷ 0 ∷ [])
    -- marker: any base and spare
    ∷ row (taken (word 5 0 0 0 ∷ word 5 255 255 0 ∷ word 5 0 1 1 ∷ [])) (1 ∷ 1 ∷ 0 ∷ [])
    -- note off, note on, key pressure, controller, bend: channel 0 to 15, data 0 to 127
    ∷ row (taken (two_data 8)) (1 ∷ 1 ∷ 0 ∷ 0 ∷ 0 ∷ [])
    ∷ row (taken (two_data 9)) (1 ∷ 1 ∷ 0 ∷ 0 ∷ 0 ∷ [])
    ∷ row (taken (two_data 10)) (1 ∷ 1 ∷ 0 ∷ 0 ∷ 0 ∷ [])
    ∷ row (taken (two_data 11)) (1 ∷ 1 ∷ 0 ∷ 0 ∷ 0 ∷ [])
    ∷ row (taken (two_data 14)) (1 ∷ 1 ∷ 0 ∷ 0 ∷ 0 ∷ [])
    -- program, channel pressure: one data byte
    ∷ row (taken (one_data 12)) (1 ∷ 1 ∷ 0 ∷ 0 ∷ 0 ∷ [])
    ∷ row (taken (one_data 13)) (1 ∷ 1 ∷ 0 ∷ 0 ∷ 0 ∷ [])
    -- there is no other kind
    ∷ row (taken (word 7 0 0 0 ∷ word 15 0 0 0 ∷ word 255 0 0 0 ∷ [])) (0 ∷ 0 ∷ 0 ∷ [])
    -- the division: bit 15 is timecode, 480 ticks per quarter
    ∷ row (map (λ d. ticks_per_quarter (piece (d ∷ []) [] [])) (1 ∷ 16384 ∷ 32767 ∷ 32768 ∷ 65535 ∷ [])) (1 ∷ 16384 ∷ 32767 ∷ 480 ∷ 480 ∷ [])
    -- the head: the first tempo of tick 0 that is not 0, the first meter, the very first key
    ∷ row (head_row (head many_changes)) (150 ∷ 3 ∷ 4 ∷ 1 ∷ 3 ∷ 1 ∷ [])
    -- what comes after tick 0 is not the head's: 120, 4/4, no key
    ∷ row (head_row (head later_changes)) (120 ∷ 4 ∷ 4 ∷ [])
    -- fifths clamp to -7 to 7
    ∷ row (head_row (head (far_key 8))) (120 ∷ 4 ∷ 4 ∷ 0 ∷ 7 ∷ 0 ∷ [])
    ∷ row (head_row (head (far_key 248))) (120 ∷ 4 ∷ 4 ∷ 1 ∷ 7 ∷ 0 ∷ [])
    -- a part's head: its first program change, else channel 0, program 0
    ∷ row (part_head_row (part_head (first_track programs))) (3 ∷ 40 ∷ [])
    ∷ row (part_head_row (part_head (first_track marked))) (0 ∷ 0 ∷ [])
    -- marks: a tempo of tick 0 is not marked, others and keys only on a bar that starts at their tick, the last of several
    ∷ row (starts marked) (0 ∷ 1920 ∷ 3840 ∷ [])
    ∷ row (marks marked)
    ((4 + 4 * 2 ^ 8 + 2 ^ 16 + 7 * 2 ^ 27 + 2 ^ 32)
    ∷ (4 + 4 * 2 ^ 8 + 100 * 2 ^ 17)
    ∷ (4 + 4 * 2 ^ 8 + 1 * 2 ^ 27)
    ∷ [])
    ∷ row (map mark_tempo (marks short_bars)) (0 ∷ 120 ∷ 0 ∷ [])
    ∷ row (field_row (mark_of (meter 255 128) true 999 (some (record { fifths = pos 7; minor = true })))) (255 ∷ 128 ∷ 1 ∷ 999 ∷ 15 ∷ 1 ∷ [])
    ∷ row (field_row (mark_of (meter 0 1) true 512 (some (record { fifths = negsuc 6; minor = true })))) (0 ∷ 1 ∷ 1 ∷ 512 ∷ 1 ∷ 1 ∷ [])
    ∷ row (field_row (mark_of (meter 3 4) false 0 none)) (3 ∷ 4 ∷ 0 ∷ 0 ∷ 0 ∷ 0 ∷ [])
    -- automation: kind after kind, each in track order; ticks at 480 per quarter
    ∷ row (automation_row all_kinds)
    (1 ∷ 1 ∷ 1 ∷ 2 ∷ 5 ∷ 3 ∷ 2 ∷ 1 ∷ 4 ∷ word 14 0 0 64 ∷ word 11 0 7 8 ∷ word 12 0 6 0 ∷ word 13 0 5 0 ∷ word 10 0 60 9 ∷ [])
    -- a spare that only mirrors its base is dropped; without a marker, or with other ticks, it is kept
    ∷ row (automation_row (mirrored (word 5 0 1 0 ∷ []) 0)) base_kept
    ∷ row (automation_row (mirrored [] 0)) both_kept
    ∷ row (automation_row (mirrored (word 5 0 1 0 ∷ []) 1))
    (2 ∷ 2 ∷ 0 ∷ 0 ∷ 20 ∷ 21 ∷ 10 ∷ 10 ∷ word 14 0 1 64 ∷ word 14 1 1 64 ∷ word 11 0 7 100 ∷ word 11 1 7 100 ∷ [])
    -- markers above 15 or of equal channels are skipped
    ∷ row (automation_row (mirrored (word 5 16 1 0 ∷ word 5 0 1 0 ∷ []) 0)) base_kept
    ∷ row (automation_row (mirrored (word 5 1 16 0 ∷ word 5 0 1 0 ∷ []) 0)) base_kept
    ∷ row (automation_row (mirrored (word 5 1 1 0 ∷ word 5 0 1 0 ∷ []) 0)) base_kept
    -- a spare given two bases, or a base that is also a spare, cancels all
    ∷ row (automation_row (mirrored (word 5 0 1 0 ∷ word 5 2 1 0 ∷ []) 0)) both_kept
    ∷ row (automation_row (mirrored (word 5 0 1 0 ∷ word 5 1 2 0 ∷ []) 0)) both_kept
    -- the same marker twice cancels nothing
    ∷ row (automation_row (mirrored (word 5 0 1 0 ∷ word 5 0 1 0 ∷ []) 0)) base_kept
    -- a place and a detail, bit by bit: code 5, track 1, event 2, tick 3, channel 0, key 60
    ∷ row (keep (λ n. eqb n (5 * 2 ^ 48 + 2 ^ 32 + 2)) (places every_code)) ((5 * 2 ^ 48 + 2 ^ 32 + 2) ∷ [])
    ∷ row (keep (λ n. eqb n (3 * 2 ^ 16 + 60)) (details every_code)) ((3 * 2 ^ 16 + 60) ∷ [])
    -- by channel, then key
    ∷ row (details by_channels) (127 ∷ 256 ∷ [])
    -- the first meter's length may be 0: no diagnostic 2
    ∷ row (places no_length) []
    ∷ row (details late_meter) ((1000 * 2 ^ 16 + 255 * 2 ^ 8 + 255) ∷ [])
    ∷ []

-- Every code, and their order: 1; 2; 3 track by track; then in each track 4, and 5 by channel, key, arrival.
pub every_code_lem : found_row (diagnostics every_code)
    ≡ (1 ∷ 0 ∷ 0 ∷ 0 ∷ 255 ∷ 255 ∷ [])
    ∷ (2 ∷ 0 ∷ 2 ∷ 1921 ∷ 255 ∷ 255 ∷ [])
    ∷ (2 ∷ 0 ∷ 3 ∷ 1922 ∷ 255 ∷ 255 ∷ [])
    ∷ (3 ∷ 0 ∷ 4 ∷ 1922 ∷ 255 ∷ 255 ∷ [])
    ∷ (3 ∷ 1 ∷ 3 ∷ 3 ∷ 255 ∷ 255 ∷ [])
    ∷ (4 ∷ 0 ∷ 5 ∷ 1923 ∷ 2 ∷ 255 ∷ [])
    ∷ (5 ∷ 0 ∷ 0 ∷ 0 ∷ 1 ∷ 60 ∷ [])
    ∷ (4 ∷ 1 ∷ 4 ∷ 7 ∷ 0 ∷ 255 ∷ [])
    ∷ (5 ∷ 1 ∷ 2 ∷ 3 ∷ 0 ∷ 60 ∷ [])
    ∷ (5 ∷ 1 ∷ 1 ∷ 3 ∷ 0 ∷ 70 ∷ [])
    ∷ (5 ∷ 1 ∷ 0 ∷ 3 ∷ 1 ∷ 50 ∷ [])
    ∷ []
unfolding keep insert sort_by timed cut_tracks without_oldest pair_one in_tracks diagnostics
every_code_lem = refl

pub events_hold : given events ≡ wanted events
unfolding events keep any flat_map insert sort_by timed cut_tracks well_formed without_oldest pair_one raw_notes_of bars_from end_of_piece bars_up_to printed_from marks_from
    automation_lists cancelled same_messages is_dropped in_tracks diagnostics
events_hold = refl
