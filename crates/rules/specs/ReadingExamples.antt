-- A fifth table of examples: section 8's yes, and for each of its points a staff that fails at that point alone.
use Rattle.std.specs.Prelude.{ℕ, ◌+◌, ◌^◌, Bool, ◌≡◌, refl}
use mathlib.Core.List.{List, [], ◌∷◌, flat_map}
use Rattle.rules.specs.Lists.{keep, any, every, insert, sort_by, below, sum, flag}
use Rattle.rules.specs.Piece.{Piece, piece, sizes_agree, timed, cut_tracks, well_formed, word}
use Rattle.rules.specs.RawNotes.{without_oldest, pair_one, raw_notes_of, most_notes}
use Rattle.rules.specs.Bars.{bars_from, end_of_piece, bars_up_to}
use Rattle.rules.specs.Grid.{is_off_grid, grid}
use Rattle.rules.specs.Values.{twos}
use Rattle.rules.specs.Items.{read_items, cut_by, by_fours}
use Rattle.rules.specs.ProofReader.{timed_from, voice_timed, heard_after}
use Rattle.rules.specs.ProofReaderTests.{full?, tied?, ends_meant?, right?, shaped?, even?}
use Rattle.rules.specs.Refusals.{Result, refused, given as answered, unless, event_refusals, piece_refusals}
use Rattle.rules.specs.Calls.{proof_read_call}
use Rattle.rules.specs.Examples.{Row, one, given, wanted}
use Rattle.rules.specs.FurtherExamples.{one_track, printed_piece, late_note}

-- 1 yes, 0 no; a refusal is its number and 100
abbrev pub answer : Result Bool → ℕ
answer (refused n) = 100 + n
answer (answered b) = flag b

-- what is said of a staff of part 0: counts, heads, and each item's keys, all below 64
abbrev pub reads : Piece → List ℕ → List ℕ → List ℕ → ℕ
reads x counts heads keys = answer (proof_read_call x 0 (record { counts = counts; heads = heads; keys = flat_map (λ k. k ∷ 0 ∷ []) keys }) 5000)

-- a rest's bit, tie-in, tie-out, unpitched, a dot
abbrev pub r : ℕ
r = 256

abbrev pub tie_in : ℕ
tie_in = 32

abbrev pub tie_out : ℕ
tie_out = 64

abbrev pub drums : ℕ
drums = 128

abbrev pub dot : ℕ
dot = 16

-- keys 60, 61 and 62 as bits
abbrev pub c : ℕ
c = 2 ^ 60

abbrev pub cs : ℕ
cs = 2 ^ 61

abbrev pub d : ℕ
d = 2 ^ 62

-- a note of key 60 from tick 0 on, so many ticks long
abbrev pub note_of : ℕ → Piece
note_of l = one_track (0 ∷ l ∷ []) (word 9 0 60 64 ∷ word 8 0 60 0 ∷ [])

-- one bar of 16/4, and a note as long
abbrev pub longa : Piece
longa = one_track (0 ∷ 0 ∷ 7680 ∷ []) (word 3 16 2 0 ∷ word 9 0 60 64 ∷ word 8 0 60 0 ∷ [])

-- a note of a quarter at 12 ticks per quarter
abbrev pub coarse : Piece
coarse = piece (12 ∷ 1 ∷ 2 ∷ []) (0 ∷ 12 ∷ []) (word 9 0 60 64 ∷ word 8 0 60 0 ∷ [])

-- key 60 from 0 to 960, key 62 from 480 to 960
abbrev pub overlapping : Piece
overlapping = one_track (0 ∷ 480 ∷ 480 ∷ 0 ∷ []) (word 9 0 60 64 ∷ word 9 0 62 64 ∷ word 8 0 60 0 ∷ word 8 0 62 0 ∷ [])

-- key 60 for one bar, key 61 for three
abbrev pub one_and_three : Piece
one_and_three = one_track (0 ∷ 0 ∷ 1920 ∷ 3840 ∷ []) (word 9 0 60 64 ∷ word 9 0 61 64 ∷ word 8 0 60 0 ∷ word 8 0 61 0 ∷ [])

pub readings : List Row
readings =
    -- yes: a quarter of key 60 and a dotted half rest
    one (reads printed_piece (2 ∷ 0 ∷ 0 ∷ 0 ∷ []) (4 ∷ (3 + dot + r) ∷ []) (c ∷ 0 ∷ [])) 1
    -- malformed: a spare bar, a missing bar, heads or keys that do not fit the counts, a head bit without meaning
    ∷ one (reads printed_piece (2 ∷ 0 ∷ 0 ∷ 0 ∷ 0 ∷ 0 ∷ 0 ∷ 0 ∷ []) (4 ∷ (3 + dot + r) ∷ []) (c ∷ 0 ∷ [])) 0
    ∷ one (reads (note_of 1920) [] [] []) 0
    ∷ one (reads printed_piece (2 ∷ 0 ∷ 0 ∷ 0 ∷ []) (4 ∷ (3 + dot + r) ∷ (3 + r) ∷ []) (c ∷ 0 ∷ [])) 0
    ∷ one (reads printed_piece (2 ∷ 0 ∷ 0 ∷ 0 ∷ []) (4 ∷ (3 + dot + r) ∷ []) (c ∷ 0 ∷ 0 ∷ [])) 0
    ∷ one (reads printed_piece (2 ∷ 0 ∷ 0 ∷ 0 ∷ []) ((4 + 512) ∷ (3 + dot + r) ∷ []) (c ∷ 0 ∷ [])) 0
    ∷ one (reads longa (1 ∷ 0 ∷ 0 ∷ 0 ∷ []) (0 ∷ []) (c ∷ [])) 1
    ∷ one (reads longa (1 ∷ 0 ∷ 0 ∷ 0 ∷ []) (512 ∷ []) (c ∷ [])) 0
    -- values: code 8 is one of staffs, code 9 is none; nor is a dotted value of no whole number of ticks
    ∷ one
    (reads printed_piece (7 ∷ 0 ∷ 0 ∷ 0 ∷ []) (4 ∷ (3 + r) ∷ (5 + r) ∷ (6 + r) ∷ (7 + r) ∷ (8 + r) ∷ (8 + r) ∷ []) (c ∷ 0 ∷ 0 ∷ 0 ∷ 0 ∷ 0 ∷ 0 ∷ []))
    1
    ∷ one
    (reads printed_piece (8 ∷ 0 ∷ 0 ∷ 0 ∷ []) (4 ∷ (3 + r) ∷ (5 + r) ∷ (6 + r) ∷ (7 + r) ∷ (8 + r) ∷ (9 + r) ∷ (9 + r) ∷ [])
    (c ∷ 0 ∷ 0 ∷ 0 ∷ 0 ∷ 0 ∷ 0 ∷ 0 ∷ []))
    0
    ∷ one (reads coarse (2 ∷ 0 ∷ 0 ∷ 0 ∷ []) (4 ∷ (3 + dot + r) ∷ []) (c ∷ 0 ∷ [])) 1
    ∷ one (reads coarse (5 ∷ 0 ∷ 0 ∷ 0 ∷ []) (4 ∷ (3 + r) ∷ (6 + dot + r) ∷ (6 + dot + r) ∷ (6 + dot + r) ∷ []) (c ∷ 0 ∷ 0 ∷ 0 ∷ 0 ∷ [])) 0
    -- full bars: voice 0 too short, too long, empty; another voice too short, filled
    ∷ one (reads printed_piece (1 ∷ 0 ∷ 0 ∷ 0 ∷ []) (4 ∷ []) (c ∷ [])) 0
    ∷ one (reads printed_piece (2 ∷ 0 ∷ 0 ∷ 0 ∷ []) (4 ∷ (2 + r) ∷ []) (c ∷ 0 ∷ [])) 0
    ∷ one (reads printed_piece (0 ∷ 2 ∷ 0 ∷ 0 ∷ []) (4 ∷ (3 + dot + r) ∷ []) (c ∷ 0 ∷ [])) 0
    ∷ one (reads printed_piece (2 ∷ 1 ∷ 0 ∷ 0 ∷ []) (4 ∷ (3 + dot + r) ∷ (3 + r) ∷ []) (c ∷ 0 ∷ 0 ∷ [])) 0
    ∷ one (reads printed_piece (2 ∷ 1 ∷ 0 ∷ 0 ∷ []) (4 ∷ (3 + dot + r) ∷ (2 + r) ∷ []) (c ∷ 0 ∷ 0 ∷ [])) 1
    -- rests have no keys or marks, other items at least one key
    ∷ one (reads printed_piece (2 ∷ 0 ∷ 0 ∷ 0 ∷ []) (4 ∷ (3 + dot + r) ∷ []) (c ∷ c ∷ [])) 0
    ∷ one (reads printed_piece (2 ∷ 0 ∷ 0 ∷ 0 ∷ []) (4 ∷ (3 + dot + r + drums) ∷ []) (c ∷ 0 ∷ [])) 0
    ∷ one (reads printed_piece (2 ∷ 0 ∷ 0 ∷ 0 ∷ []) (4 ∷ (3 + dot + r + tie_out) ∷ []) (c ∷ 0 ∷ [])) 0
    ∷ one (reads printed_piece (2 ∷ 1 ∷ 0 ∷ 0 ∷ []) (4 ∷ (3 + dot + r) ∷ 2 ∷ []) (c ∷ 0 ∷ 0 ∷ [])) 0
    -- ties: they meet; a tie-out that meets nothing, other keys, another mark, a tie-in from nothing
    ∷ one (reads (note_of 960) (3 ∷ 0 ∷ 0 ∷ 0 ∷ []) ((4 + tie_out) ∷ (4 + tie_in) ∷ (3 + r) ∷ []) (c ∷ c ∷ 0 ∷ [])) 1
    ∷ one (reads printed_piece (2 ∷ 0 ∷ 0 ∷ 0 ∷ []) ((4 + tie_out) ∷ (3 + dot + r) ∷ []) (c ∷ 0 ∷ [])) 0
    ∷ one (reads (note_of 960) (3 ∷ 0 ∷ 0 ∷ 0 ∷ []) ((4 + tie_out) ∷ (4 + tie_in) ∷ (3 + r) ∷ []) (c ∷ (c + cs) ∷ 0 ∷ [])) 0
    ∷ one (reads (note_of 960) (3 ∷ 0 ∷ 0 ∷ 0 ∷ []) ((4 + tie_out) ∷ (4 + tie_in + drums) ∷ (3 + r) ∷ []) (c ∷ c ∷ 0 ∷ [])) 0
    ∷ one (reads printed_piece (2 ∷ 1 ∷ 0 ∷ 0 ∷ []) (4 ∷ (3 + dot + r) ∷ (2 + tie_in) ∷ []) (c ∷ 0 ∷ c ∷ [])) 0
    -- they meet at one tick: through three bars, and with a bar between
    ∷ one
    (reads (note_of 5760) (1 ∷ 1 ∷ 0 ∷ 0 ∷ 1 ∷ 1 ∷ 0 ∷ 0 ∷ 1 ∷ 1 ∷ 0 ∷ 0 ∷ [])
    ((2 + r) ∷ (2 + tie_out) ∷ (2 + r) ∷ (2 + tie_in + tie_out) ∷ (2 + r) ∷ (2 + tie_in) ∷ [])
    (0 ∷ c ∷ 0 ∷ c ∷ 0 ∷ c ∷ []))
    1
    ∷ one
    (reads (note_of 5760) (1 ∷ 1 ∷ 0 ∷ 0 ∷ 1 ∷ 0 ∷ 0 ∷ 0 ∷ 1 ∷ 1 ∷ 0 ∷ 0 ∷ [])
    ((2 + r) ∷ (2 + tie_out) ∷ (2 + r) ∷ (2 + r) ∷ (2 + tie_in) ∷ [])
    (0 ∷ c ∷ 0 ∷ 0 ∷ c ∷ []))
    0
    -- a tie-out is free at the staff's end, and not before
    ∷ one (reads (note_of 1920) (1 ∷ 0 ∷ 0 ∷ 0 ∷ []) ((2 + tie_out) ∷ []) (c ∷ [])) 1
    ∷ one
    (reads one_and_three (1 ∷ 1 ∷ 0 ∷ 0 ∷ 1 ∷ 0 ∷ 0 ∷ 0 ∷ 1 ∷ 0 ∷ 0 ∷ 0 ∷ [])
    ((2 + tie_out) ∷ 2 ∷ (2 + tie_in + tie_out) ∷ (2 + tie_in) ∷ [])
    (cs ∷ c ∷ cs ∷ cs ∷ []))
    1
    ∷ one
    (reads one_and_three (1 ∷ 1 ∷ 0 ∷ 0 ∷ 1 ∷ 0 ∷ 0 ∷ 0 ∷ 1 ∷ 0 ∷ 0 ∷ 0 ∷ [])
    ((2 + tie_out) ∷ (2 + tie_out) ∷ (2 + tie_in + tie_out) ∷ (2 + tie_in) ∷ [])
    (cs ∷ c ∷ cs ∷ cs ∷ []))
    0
    -- each raw note is found; one that snaps to the last bar's end is not asked
    ∷ one (reads printed_piece (1 ∷ 0 ∷ 0 ∷ 0 ∷ []) ((2 + r) ∷ []) (0 ∷ [])) 0
    ∷ one (reads late_note (1 ∷ 0 ∷ 0 ∷ 0 ∷ []) ((2 + r) ∷ []) (0 ∷ [])) 1
    -- each played-back key is that of a note of the chord's start
    ∷ one (reads printed_piece (2 ∷ 0 ∷ 0 ∷ 0 ∷ []) (4 ∷ (3 + dot + r) ∷ []) ((c + cs) ∷ 0 ∷ [])) 0
    ∷ one (reads overlapping (3 ∷ 0 ∷ 0 ∷ 0 ∷ []) (4 ∷ 4 ∷ (3 + r) ∷ []) (c ∷ (c + d) ∷ 0 ∷ [])) 0
    -- in each of the four voices
    ∷ one (reads printed_piece (2 ∷ 1 ∷ 0 ∷ 0 ∷ []) (4 ∷ (3 + dot + r) ∷ 2 ∷ []) (c ∷ 0 ∷ d ∷ [])) 0
    ∷ one (reads printed_piece (2 ∷ 0 ∷ 1 ∷ 0 ∷ []) (4 ∷ (3 + dot + r) ∷ 2 ∷ []) (c ∷ 0 ∷ d ∷ [])) 0
    ∷ one (reads printed_piece (2 ∷ 0 ∷ 0 ∷ 1 ∷ []) (4 ∷ (3 + dot + r) ∷ 2 ∷ []) (c ∷ 0 ∷ d ∷ [])) 0
    -- each chord ends at its note's end, at its voice's next chord, or at the last bar's end
    ∷ one (reads printed_piece (2 ∷ 0 ∷ 0 ∷ 0 ∷ []) (3 ∷ (3 + r) ∷ []) (c ∷ 0 ∷ [])) 0
    ∷ one (reads overlapping (3 ∷ 0 ∷ 0 ∷ 0 ∷ []) (4 ∷ 4 ∷ (3 + r) ∷ []) (c ∷ d ∷ 0 ∷ [])) 1
    ∷ one (reads printed_piece (1 ∷ 0 ∷ 0 ∷ 0 ∷ []) (2 ∷ []) (c ∷ [])) 1
    ∷ []

pub readings_hold : given readings ≡ wanted readings
unfolding readings keep any every flat_map insert sort_by below sum sizes_agree timed cut_tracks well_formed without_oldest pair_one raw_notes_of most_notes
    bars_from end_of_piece bars_up_to is_off_grid grid twos read_items cut_by by_fours timed_from voice_timed heard_after full? tied? ends_meant? right? shaped?
    even? unless event_refusals piece_refusals
readings_hold = refl
