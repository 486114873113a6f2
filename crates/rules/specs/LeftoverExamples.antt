-- M-101's examples: 12 ticks per quarter, where the smallest written value has 3.
use Rattle.std.specs.Prelude.{ℕ, false, ◌≡◌, refl, length}
use mathlib.Core.List.{List, [], ◌∷◌, flat_map, flatten}
use Rattle.rules.specs.Lists.{keep, any, every, insert, sort_by, position, change_first}
use Rattle.rules.specs.Piece.{Piece, piece, timed, cut_tracks, word}
use Rattle.rules.specs.RawNotes.{without_oldest, pair_one, raw_notes_of}
use Rattle.rules.specs.Changes.{common_time}
use Rattle.rules.specs.Bars.{Bar, bars_from, end_of_piece, bars_up_to}
use Rattle.rules.specs.Grid.{is_off_grid, grid}
use Rattle.rules.specs.Voices.{Chord, join_or_open, choose, place, voices}
use Rattle.rules.specs.Values.{values, split_in}
use Rattle.rules.specs.Staff.{pieces, filled, voice_in, filled_left, voice_left, leftovers_of}
use Rattle.rules.specs.Calls.{part_arrays, part_leftovers}
use Rattle.rules.specs.Examples.{Row, row, one, given, wanted}

abbrev pub sounding : ℕ → ℕ → Chord
sounding from to = record { start = from; end = to; keys = 1; unpitched = false }

abbrev pub bar_of : ℕ → ℕ → Bar
bar_of start len = record { start = start; len = len; meter = common_time }

-- 8 ticks at tick 2 in a first voice, 2 ticks at tick 51 in a second, in two bars of 4/4
abbrev pub two_voices : List (List Chord)
two_voices = (sounding 2 10 ∷ []) ∷ (sounding 51 53 ∷ []) ∷ [] ∷ [] ∷ []

-- a piece at 12 of one note, from tick 0 to tick 2
abbrev pub short_note : Piece
short_note = piece (12 ∷ 1 ∷ 2 ∷ []) (0 ∷ 2 ∷ []) (word 9 0 60 64 ∷ word 8 0 60 0 ∷ [])

unfoldable pub leftover_rows : List Row
leftover_rows =
    -- a gap of 2, a chord of 8, a gap of 38: 2, 2 and 2 are left; in the next bar nothing. The second voice sounds in the second bar alone:
    -- a gap of 3, a chord of 2, a gap of 43: 0, 2 and 1
    row (leftovers_of 12 two_voices (bar_of 0 48 ∷ bar_of 48 48 ∷ [])) (6 ∷ 0 ∷ 0 ∷ 0 ∷ 0 ∷ 3 ∷ 0 ∷ 0 ∷ [])
    -- in a bar of 2 ticks: voice 0 has no rest, and 2 are left; a voice that sounds has no item, and 2 are left; any other has 0
    ∷ row (leftovers_of 12 ([] ∷ (sounding 0 2 ∷ []) ∷ [] ∷ [] ∷ []) (bar_of 0 2 ∷ [])) (2 ∷ 2 ∷ 0 ∷ 0 ∷ [])
    ∷ one (length (voice_in 12 false (bar_of 0 2) (sounding 0 2 ∷ []))) 0
    -- a part: its one note is snapped to 3 ticks, and nothing is left
    ∷ row (part_arrays short_note 0).counts (3 ∷ 0 ∷ 0 ∷ 0 ∷ [])
    ∷ row (part_leftovers short_note 0) (0 ∷ 0 ∷ 0 ∷ 0 ∷ [])
    ∷ []

pub leftovers_hold : given leftover_rows ≡ wanted leftover_rows
unfolding leftover_rows keep any every position change_first insert sort_by flat_map flatten timed cut_tracks without_oldest pair_one raw_notes_of join_or_open
    choose place voices grid is_off_grid values split_in pieces filled voice_in filled_left voice_left bars_from end_of_piece bars_up_to
leftovers_hold = refl
