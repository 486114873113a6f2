-- A fourth table of examples: each refusal's number, which of two is given, and what lent arrays hold afterwards.
use Rattle.std.specs.Prelude.{ℕ, ◌<◌, ◌≤◌, min, ◌≡◌, refl, length, replicate}
use mathlib.Core.List.{List, [], ◌∷◌, flat_map, flatten}
use Rattle.rules.specs.Lists.{keep, any, every, position, change_first, insert, sort_by, sum, written, cleared}
use Rattle.rules.specs.Piece.{Piece, piece, sizes_agree, timed, cut_tracks, well_formed, word}
use Rattle.rules.specs.RawNotes.{without_oldest, pair_one, raw_notes_of, parts, most_notes}
use Rattle.rules.specs.Bars.{bars_from, end_of_piece, bars_up_to, printed_from, marks_from}
use Rattle.rules.specs.Grid.{is_off_grid, grid}
use Rattle.rules.specs.Voices.{join_or_open, choose, place, voices}
use Rattle.rules.specs.Values.{values, split_in, twos}
use Rattle.rules.specs.Items.{StaffArrays}
use Rattle.rules.specs.Staff.{pieces, filled, voice_in, filled_left, voice_left}
use Rattle.rules.specs.ProofReaderTests.{even?}
use Rattle.rules.specs.Automation.{automation_lists, cancelled, same_messages, is_dropped}
use Rattle.rules.specs.Diagnostics.{in_tracks, diagnostics}
use Rattle.rules.specs.Refusals.{Result, refused, given as answered, unless, writes, event_refusals, piece_refusals}
use Rattle.rules.specs.Calls.{head_call, part_count_call, part_head_call, bars_call, staff_size_call, engrave_call, automation_call, diagnostics_call, proof_read_call}
use Rattle.rules.specs.Calls.{BarLists, beats_call, spelling_call}
use Rattle.rules.specs.Examples.{Row, row, one, given, wanted}
use Rattle.rules.specs.FurtherExamples.{printed_piece}

-- a call's number, 0 where it is answered
abbrev pub number_of : {A : Type 0} → Result A → ℕ
number_of (refused n) = n
number_of (answered a) = 0

-- the printed example with other sizes, deltas or words
abbrev pub with_sizes : List ℕ → Piece
with_sizes sizes = piece sizes (0 ∷ 480 ∷ 0 ∷ []) (151010368 ∷ 134233088 ∷ 100663296 ∷ [])

abbrev pub with_deltas : List ℕ → Piece
with_deltas ds = piece (480 ∷ 1 ∷ 3 ∷ []) ds (151010368 ∷ 134233088 ∷ 100663296 ∷ [])

abbrev pub with_words : List ℕ → Piece
with_words ws = piece (480 ∷ 1 ∷ 3 ∷ []) (0 ∷ 480 ∷ 0 ∷ []) ws

-- five ticks per quarter: uneven
abbrev pub uneven_note : Piece
uneven_note = piece (5 ∷ 1 ∷ 2 ∷ []) (0 ∷ 5 ∷ []) (151010368 ∷ 134233088 ∷ [])

abbrev pub no_staff : StaffArrays
no_staff = record { counts = []; heads = []; keys = [] }

-- what starts of 7, 8, 9 hold after the call of the bars
abbrev pub starts_left : Result BarLists → List ℕ
starts_left r = written (writes (λ (b : BarLists). b.starts) r) (7 ∷ 8 ∷ 9 ∷ [])

pub refusals : List Row
refusals =
    -- 1: sizes is 2 + T long, both others as long as the counts' sum, division and T at most 65,535
    one (number_of (head_call printed_piece)) 0
    ∷ one (number_of (head_call (with_sizes []))) 1
    ∷ one (number_of (head_call (with_sizes (480 ∷ [])))) 1
    ∷ one (number_of (head_call (with_sizes (480 ∷ 2 ∷ 3 ∷ [])))) 1
    ∷ one (number_of (head_call (with_sizes (480 ∷ 1 ∷ 2 ∷ [])))) 1
    ∷ one (number_of (head_call (with_sizes (480 ∷ 2 ∷ 2 ∷ 1 ∷ [])))) 0
    ∷ one (number_of (head_call (with_deltas (0 ∷ 480 ∷ [])))) 1
    ∷ one (number_of (head_call (with_words (151010368 ∷ 134233088 ∷ [])))) 1
    ∷ one (number_of (head_call (with_sizes (65535 ∷ 1 ∷ 3 ∷ [])))) 0
    ∷ one (number_of (head_call (with_sizes (65536 ∷ 1 ∷ 3 ∷ [])))) 1
    -- 2: division 0; 1 before it
    ∷ one (number_of (head_call (with_sizes (0 ∷ 1 ∷ 3 ∷ [])))) 2
    ∷ one (number_of (head_call (with_sizes (0 ∷ 1 ∷ 2 ∷ [])))) 1
    -- 4: a delta above 268,435,455; 2 before it
    ∷ one (number_of (head_call (with_deltas (0 ∷ 268435455 ∷ 0 ∷ [])))) 0
    ∷ one (number_of (head_call (with_deltas (0 ∷ 268435456 ∷ 0 ∷ [])))) 4
    ∷ one (number_of (head_call (piece (0 ∷ 1 ∷ 1 ∷ []) (268435456 ∷ []) (0 ∷ [])))) 2
    -- 5: a bad word; of two bad events the first decides, of one that is bad twice 4
    ∷ one (number_of (head_call (with_words (151010368 ∷ word 7 0 0 0 ∷ 100663296 ∷ [])))) 5
    ∷ one (number_of (head_call (piece (480 ∷ 1 ∷ 2 ∷ []) (0 ∷ 268435456 ∷ []) (word 7 0 0 0 ∷ 0 ∷ [])))) 5
    ∷ one (number_of (head_call (piece (480 ∷ 1 ∷ 2 ∷ []) (268435456 ∷ 0 ∷ []) (0 ∷ word 7 0 0 0 ∷ [])))) 4
    ∷ one (number_of (head_call (piece (480 ∷ 1 ∷ 1 ∷ []) (268435456 ∷ []) (word 7 0 0 0 ∷ [])))) 4
    -- 6: no notes, a velocity 0 is none; 5 before it; diagnostics do not ask it
    ∷ one (number_of (head_call (with_words (0 ∷ 0 ∷ 0 ∷ [])))) 6
    ∷ one (number_of (part_count_call (with_words (0 ∷ word 9 0 60 0 ∷ 0 ∷ [])))) 6
    ∷ one (number_of (head_call (with_words (0 ∷ word 7 0 0 0 ∷ 0 ∷ [])))) 5
    ∷ one (number_of (diagnostics_call (with_words (0 ∷ 0 ∷ 0 ∷ [])) 0 0 4096)) 0
    ∷ one (number_of (diagnostics_call (with_words (0 ∷ word 7 0 0 0 ∷ 0 ∷ [])) 0 0 4096)) 5
    -- 7: no such part; 6 before it
    ∷ one (number_of (part_head_call printed_piece 0)) 0
    ∷ one (number_of (part_head_call printed_piece 1)) 7
    ∷ one (number_of (part_head_call (with_words (0 ∷ 0 ∷ 0 ∷ [])) 1)) 6
    -- 8: an output shorter than its list, a work area below 16 N + 4,096; 7 before it
    ∷ one (number_of (bars_call printed_piece 1 1)) 0
    ∷ one (number_of (bars_call printed_piece 0 1)) 8
    ∷ one (number_of (bars_call printed_piece 1 0)) 8
    ∷ one (number_of (bars_call (with_words (0 ∷ 0 ∷ 0 ∷ [])) 0 0)) 6
    ∷ one (number_of (staff_size_call printed_piece 0 4112)) 0
    ∷ one (number_of (staff_size_call printed_piece 0 4111)) 8
    ∷ one (number_of (staff_size_call printed_piece 1 4111)) 7
    ∷ one (number_of (engrave_call printed_piece 0 4 2 4 4 4112)) 0
    ∷ one (number_of (engrave_call printed_piece 0 3 2 4 4 4112)) 8
    ∷ one (number_of (engrave_call printed_piece 0 4 1 4 4 4112)) 8
    ∷ one (number_of (engrave_call printed_piece 0 4 2 3 4 4112)) 8
    ∷ one (number_of (engrave_call printed_piece 0 4 2 4 3 4112)) 8
    ∷ one (number_of (engrave_call printed_piece 1 0 0 0 0 0)) 7
    ∷ one (number_of (automation_call (with_words (151010368 ∷ word 11 0 7 1 ∷ 0 ∷ [])) 0 1 1)) 0
    ∷ one (number_of (automation_call (with_words (151010368 ∷ word 11 0 7 1 ∷ 0 ∷ [])) 0 0 1)) 8
    ∷ one (number_of (automation_call (with_words (151010368 ∷ word 11 0 7 1 ∷ 0 ∷ [])) 0 1 0)) 8
    ∷ one (number_of (diagnostics_call (with_words (151010368 ∷ 0 ∷ 0 ∷ [])) 1 1 4112)) 0
    ∷ one (number_of (diagnostics_call (with_words (151010368 ∷ 0 ∷ 0 ∷ [])) 0 1 4112)) 8
    ∷ one (number_of (diagnostics_call (with_words (151010368 ∷ 0 ∷ 0 ∷ [])) 1 0 4112)) 8
    ∷ one (number_of (diagnostics_call (with_words (151010368 ∷ 0 ∷ 0 ∷ [])) 1 1 4111)) 8
    -- 9: uneven; 8 before it
    ∷ one (number_of (proof_read_call uneven_note 0 no_staff 4112)) 9
    ∷ one (number_of (proof_read_call uneven_note 0 no_staff 4111)) 8
    ∷ one (number_of (proof_read_call uneven_note 1 no_staff 4112)) 7
    -- 10: code, dots or key out of range
    ∷ one (number_of (beats_call 9 3)) 0
    ∷ one (number_of (beats_call 10 0)) 10
    ∷ one (number_of (beats_call 0 4)) 10
    ∷ one (number_of (spelling_call 127)) 0
    ∷ one (number_of (spelling_call 128)) 10
    -- a lent output has what was written, and behind it what stood there; a refusal leaves all of it
    ∷ row (written (1 ∷ 2 ∷ []) (7 ∷ 8 ∷ 9 ∷ [])) (1 ∷ 2 ∷ 9 ∷ [])
    ∷ row (starts_left (bars_call printed_piece 3 3)) (0 ∷ 8 ∷ 9 ∷ [])
    ∷ row (starts_left (bars_call printed_piece 3 0)) (7 ∷ 8 ∷ 9 ∷ [])
    -- a work area is zero
    ∷ row (cleared (7 ∷ 8 ∷ 9 ∷ [])) (0 ∷ 0 ∷ 0 ∷ [])
    ∷ []

pub refusals_hold : given refusals ≡ wanted refusals
unfolding refusals keep any every position change_first insert sort_by sum flat_map flatten sizes_agree timed cut_tracks well_formed without_oldest pair_one
    raw_notes_of most_notes bars_from end_of_piece bars_up_to printed_from marks_from is_off_grid grid join_or_open choose place voices values split_in twos pieces
    filled voice_in filled_left voice_left even? automation_lists cancelled same_messages is_dropped in_tracks diagnostics unless event_refusals piece_refusals
refusals_hold = refl

-- ---- what no row computes: pieces of many events and of many tracks

-- n events of one delta and one word
abbrev pub many_events : ℕ → ℕ → ℕ → ℕ → Piece
many_events division n d w = piece (division ∷ 1 ∷ n ∷ []) (replicate n d) (replicate n w)

-- n tracks of no events
abbrev pub many_tracks : ℕ → Piece
many_tracks n = piece (480 ∷ n ∷ replicate n 0) [] []

-- n tracks of one note each
abbrev pub many_notes : ℕ → Piece
many_notes n = piece (480 ∷ n ∷ replicate n 1) (replicate n 0) (replicate n (word 9 0 60 64))

-- `diagnostics_call` is asked with no work area: 8 comes next where 1 to 5 let a piece pass.
pub record AtTheLimits : Type 0 where
  -- 1: more than 65,535 tracks
  pub many_tracks_lem : (n : ℕ) → 65535 < n → number_of (diagnostics_call (many_tracks n) 0 0 0) ≡ 1
  pub most_tracks : (n : ℕ) → n ≤ 65535 → number_of (diagnostics_call (many_tracks n) 0 0 0) ≡ 8
  -- 3: more than 500,000 events, whatever their deltas and words: 3 comes before 4 and 5, and 2 before it
  pub many_events_lem : (n d w : ℕ) → 500000 < n → number_of (head_call (many_events 480 n d w)) ≡ 3
  pub most_events : (n : ℕ) → n ≤ 500000 → number_of (diagnostics_call (many_events 480 n 0 0) 0 0 0) ≡ 8
  pub undivided : (n d w : ℕ) → number_of (head_call (many_events 0 n d w)) ≡ 2
  -- 7: of n tracks with notes the first 32 are parts
  pub most_parts : (n : ℕ) → length (parts (many_notes n)) ≡ min 32 n
