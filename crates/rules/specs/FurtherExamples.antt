-- A second table of examples, for rules that no theorem pins down.
use Rattle.std.specs.Prelude.{ℕ, ◌+◌, ◌*◌, ◌^◌, true, ◌≡◌, refl, length, get_or}
use mathlib.Core.List.{List, [], ◌∷◌, map, flat_map, flatten}
use Rattle.rules.specs.Lists.{keep, any, every, position, change_first, insert, sort_by, flag}
use Rattle.rules.specs.Piece.{Piece, first_track, timed, cut_tracks, word}
use Rattle.rules.specs.RawNotes.{RawNote, raw_notes, without_oldest, pair_one, raw_notes_of}
use Rattle.rules.specs.Changes.{tempo_of, head}
use Rattle.rules.specs.Bars.{bars_from, end_of_piece, bars_up_to, starts, printed_from, marks_from, marks}
use Rattle.rules.specs.Grid.{is_off_grid, grid}
use Rattle.rules.specs.Voices.{Chord, join_or_open, chords, choose, place, voices}
use Rattle.rules.specs.Values.{values, split_in, beats256, dotted, ticks480}
use Rattle.rules.specs.Staff.{pieces, filled, voice_in}
use Rattle.rules.specs.Spelling.{semitone, spelled, spelled_either, sounds}
use Rattle.rules.specs.Automation.{automation_tick}
use Rattle.rules.specs.Calls.{part_arrays}
use Rattle.rules.specs.Examples.{Row, row, one, given, wanted, note, drum, signed, spelling_row}

-- start, end, keys and unpitched mark of each chord
abbrev pub chord_row : List Chord → List ℕ
chord_row [] = []
chord_row (c ∷ cs) = c.start ∷ c.end ∷ c.keys ∷ flag c.unpitched ∷ chord_row cs

-- voice v of notes on the grid 120
abbrev pub voice_row : ℕ → List RawNote → List ℕ
voice_row v ns = chord_row (get_or (voices 120 ns) v [])

-- document 01's printed example
abbrev pub printed_piece : Piece
printed_piece =
    record { sizes = 480 ∷ 1 ∷ 3 ∷ []; deltas = 0 ∷ 480 ∷ 0 ∷ []; words = 151010368 ∷ 134233088 ∷ 100663296 ∷ [] }

-- four chords of one start and four ends, and a fifth
abbrev pub five_together : List RawNote
five_together = note 0 240 80 ∷ note 0 360 79 ∷ note 0 480 78 ∷ note 0 600 77 ∷ drum 0 720 36 ∷ []

-- four notes that overlap, and a fifth
abbrev pub five_in_turn : List RawNote
five_in_turn = note 0 1920 60 ∷ note 120 1920 62 ∷ note 240 1920 64 ∷ note 360 1920 65 ∷ note 480 1920 67 ∷ []

abbrev pub one_shorter : List RawNote
one_shorter = note 0 1920 60 ∷ note 120 1800 62 ∷ note 240 1920 64 ∷ note 360 1920 65 ∷ note 480 1920 67 ∷ []

-- a piece of one track at 480
abbrev pub one_track : List ℕ → List ℕ → Piece
one_track ds ws = record { sizes = 480 ∷ 1 ∷ length ws ∷ []; deltas = ds; words = ws }

abbrev pub note_row : List RawNote → List ℕ
note_row [] = []
note_row (n ∷ ns) = n.start ∷ n.end ∷ n.key ∷ n.channel ∷ note_row ns

abbrev pub notes_of : Piece → List ℕ
notes_of x = note_row (raw_notes (first_track x))

-- two starts of key 60, one off, and the end of the track
abbrev pub two_starts : Piece
two_starts = one_track (0 ∷ 10 ∷ 10 ∷ 10 ∷ []) (word 9 0 60 64 ∷ word 9 0 60 64 ∷ word 8 0 60 0 ∷ word 6 0 0 0 ∷ [])

-- a note of no length, and a start at the last tick
abbrev pub short_notes : Piece
short_notes = one_track (5 ∷ 0 ∷ 25 ∷ []) (word 9 0 60 64 ∷ word 9 0 60 0 ∷ word 9 0 62 64 ∷ [])

-- one start and key on three channels, the last of them closed
abbrev pub three_channels : Piece
three_channels = one_track (0 ∷ 0 ∷ 0 ∷ 10 ∷ 10 ∷ []) (word 9 2 60 64 ∷ word 9 1 60 64 ∷ word 9 3 60 64 ∷ word 8 3 60 0 ∷ word 6 0 0 0 ∷ [])

-- 3/4 and then 4/4 at tick 0, 2/4 and then 5/4 within the first bar, a note to tick 3000
abbrev pub meters : Piece
meters =
    one_track (0 ∷ 0 ∷ 0 ∷ 100 ∷ 100 ∷ 2800 ∷ [])
    (word 3 3 2 0 ∷ word 3 4 2 0 ∷ word 9 0 60 64 ∷ word 3 2 2 0 ∷ word 3 5 2 0 ∷ word 8 0 60 0 ∷ [])

-- the sole note 1900 to 1920
abbrev pub late_note : Piece
late_note = one_track (1900 ∷ 20 ∷ []) (word 9 0 60 64 ∷ word 8 0 60 0 ∷ [])

-- a note of five sixteenths on each side of a bar line, and a lower one under its start
abbrev pub over_bar_line : Piece
over_bar_line =
    one_track (1320 ∷ 0 ∷ 120 ∷ 1080 ∷ 0 ∷ [])
    (word 9 0 60 64 ∷ word 9 0 48 64 ∷ word 8 0 48 0 ∷ word 8 0 60 0 ∷ word 6 0 0 0 ∷ [])

pub further : List Row
further =
    -- an off takes the oldest start; a pending start ends at the last tick
    row (notes_of two_starts) (0 ∷ 20 ∷ 60 ∷ 0 ∷ 10 ∷ 30 ∷ 60 ∷ 0 ∷ [])
    -- a note ends at start + 1 or later
    ∷ row (notes_of short_notes) (5 ∷ 6 ∷ 60 ∷ 0 ∷ 30 ∷ 31 ∷ 62 ∷ 0 ∷ [])
    -- of equal start and key the closed come first, then the unclosed by channel
    ∷ row (notes_of three_channels) (0 ∷ 10 ∷ 60 ∷ 3 ∷ 0 ∷ 20 ∷ 60 ∷ 1 ∷ 0 ∷ 20 ∷ 60 ∷ 2 ∷ [])
    -- the head has the first meter of tick 0, a bar the last change at or before its start
    ∷ row ((head meters).meter.upper ∷ (head meters).meter.lower ∷ []) (3 ∷ 4 ∷ [])
    ∷ row (starts meters) (0 ∷ 1920 ∷ [])
    ∷ row (marks meters) ((4 + 4 * 2 ^ 8 + 2 ^ 16) ∷ (5 + 4 * 2 ^ 8 + 2 ^ 16) ∷ [])
    -- bars run to the raw end: the sole note starts at 1920 and is not written
    ∷ row (starts late_note) (0 ∷ [])
    ∷ row (part_arrays late_note 0).heads ((2 + 256) ∷ [])
    -- a chord over a bar line: its pieces are tied, and only voice 0 has rests where nothing sounds
    ∷ row (part_arrays over_bar_line 0).counts (4 ∷ 4 ∷ 0 ∷ 0 ∷ 4 ∷ 0 ∷ 0 ∷ 0 ∷ [])
    ∷ row (part_arrays over_bar_line 0).heads
    ((3 + 256)
    ∷ (5 + 16 + 256)
    ∷ (4 + 64)
    ∷ (6 + 32 + 64)
    ∷ (3 + 256)
    ∷ (5 + 16 + 256)
    ∷ 6
    ∷ (4 + 256)
    ∷ (4 + 32 + 64)
    ∷ (6 + 32)
    ∷ (3 + 256)
    ∷ (5 + 16 + 256)
    ∷ [])
    -- a tempo is a whole part, at most 999; a sixteenth has at least one tick
    ∷ one (tempo_of 397351) 150
    ∷ one (tempo_of 60000) 999
    ∷ one (grid 1 (note 0 1 60 ∷ [])) 1
    -- beats in 256ths: a longa, a 128th with three dots; at 480 ticks per quarter a dot adds the whole part of half
    ∷ row (beats256 0 0 ∷ beats256 9 3 ∷ []) (4096 ∷ 15 ∷ [])
    ∷ row (ticks480 4 0 ∷ ticks480 4 1 ∷ ticks480 9 2 ∷ []) (480 ∷ 720 ∷ 25 ∷ [])
    -- keys are spelled with sharps: the steps of the twelve from middle C on; the first key is C -1, the last G 9
    ∷ row (map (λ k. semitone (spelled (60 + k)).step) (0 ∷ 1 ∷ 2 ∷ 3 ∷ 4 ∷ 5 ∷ 6 ∷ 7 ∷ 8 ∷ 9 ∷ 10 ∷ 11 ∷ []))
    (0 ∷ 0 ∷ 2 ∷ 2 ∷ 4 ∷ 5 ∷ 5 ∷ 7 ∷ 7 ∷ 9 ∷ 9 ∷ 11 ∷ [])
    ∷ row (spelling_row (spelled 0)) (0 ∷ 1 ∷ 1 ∷ 0 ∷ 0 ∷ [])
    ∷ row (spelling_row (spelled 127)) (7 ∷ 0 ∷ 9 ∷ 0 ∷ 0 ∷ [])
    -- a spelling sounds its key
    ∷ row (signed (sounds (spelled 61))) (0 ∷ 61 ∷ [])
    -- where flats are preferred key 61 is D flat 4
    ∷ row (spelling_row (spelled_either 61 true)) (2 ∷ 0 ∷ 4 ∷ 1 ∷ 1 ∷ [])
    -- automation ticks round to the nearest
    ∷ one (automation_tick 960 1) 1
    ∷ one (automation_tick 480 1000) 1000
    -- a chord is unpitched if all its notes are on channel 9
    ∷ row (chord_row (chords 120 (drum 0 120 36 ∷ drum 0 120 38 ∷ []))) (0 ∷ 120 ∷ (2 ^ 36 + 2 ^ 38) ∷ 1 ∷ [])
    ∷ row (chord_row (chords 120 (drum 0 120 36 ∷ note 0 120 38 ∷ []))) (0 ∷ 120 ∷ (2 ^ 36 + 2 ^ 38) ∷ 0 ∷ [])
    ∷ row (chord_row (chords 120 (note 0 120 36 ∷ drum 0 120 38 ∷ []))) (0 ∷ 120 ∷ (2 ^ 36 + 2 ^ 38) ∷ 0 ∷ [])
    -- notes join by start and end, an older chord too
    ∷ row (chord_row (chords 120 (note 0 120 60 ∷ note 0 240 64 ∷ note 0 120 67 ∷ [])))
    (0 ∷ 120 ∷ (2 ^ 60 + 2 ^ 67) ∷ 0 ∷ 0 ∷ 240 ∷ 2 ^ 64 ∷ 0 ∷ [])
    -- higher keys come first at one start
    ∷ row (voice_row 0 (note 0 120 60 ∷ note 0 240 64 ∷ [])) (0 ∷ 240 ∷ 2 ^ 64 ∷ 0 ∷ [])
    ∷ row (voice_row 1 (note 0 120 60 ∷ note 0 240 64 ∷ [])) (0 ∷ 120 ∷ 2 ^ 60 ∷ 0 ∷ [])
    ∷ row (voice_row 0 (note 0 120 126 ∷ note 0 240 127 ∷ [])) (0 ∷ 240 ∷ 2 ^ 127 ∷ 0 ∷ [])
    -- a voice that ends at the chord's start is free
    ∷ row (voice_row 0 (note 0 120 60 ∷ note 120 240 62 ∷ [])) (0 ∷ 120 ∷ 2 ^ 60 ∷ 0 ∷ 120 ∷ 240 ∷ 2 ^ 62 ∷ 0 ∷ [])
    -- keys are given to the first voice of the same start, the unpitched mark is not
    ∷ row (voice_row 0 five_together) (0 ∷ 240 ∷ (2 ^ 80 + 2 ^ 36) ∷ 0 ∷ [])
    ∷ row (voice_row 3 five_together) (0 ∷ 600 ∷ 2 ^ 77 ∷ 0 ∷ [])
    -- of voices that end together the lowest is cut to the new start
    ∷ row (voice_row 0 five_in_turn) (0 ∷ 480 ∷ 2 ^ 60 ∷ 0 ∷ 480 ∷ 1920 ∷ 2 ^ 67 ∷ 0 ∷ [])
    ∷ row (voice_row 1 five_in_turn) (120 ∷ 1920 ∷ 2 ^ 62 ∷ 0 ∷ [])
    -- the voice that ends earliest is cut
    ∷ row (voice_row 1 one_shorter) (120 ∷ 480 ∷ 2 ^ 62 ∷ 0 ∷ 480 ∷ 1920 ∷ 2 ^ 67 ∷ 0 ∷ [])
    -- the printed example: a quarter of key 60 and a dotted half rest, in one bar of 4/4
    ∷ row (starts printed_piece) (0 ∷ [])
    ∷ row (marks printed_piece) ((4 + 4 * 2 ^ 8 + 2 ^ 16) ∷ [])
    ∷ row (part_arrays printed_piece 0).counts (2 ∷ 0 ∷ 0 ∷ 0 ∷ [])
    ∷ row (part_arrays printed_piece 0).heads (4 ∷ (3 + 16 + 256) ∷ [])
    ∷ row (part_arrays printed_piece 0).keys (2 ^ 60 ∷ 0 ∷ 0 ∷ 0 ∷ [])
    ∷ []

pub further_hold : given further ≡ wanted further
unfolding further keep any every position change_first insert sort_by flat_map flatten timed cut_tracks without_oldest pair_one raw_notes_of join_or_open
    choose place voices grid is_off_grid values split_in dotted pieces filled voice_in bars_from end_of_piece bars_up_to printed_from marks_from
further_hold = refl
