-- Section 7, Staff: each voice of each bar. Rests fill gaps, chords are cut at bar lines, pieces are tied.
use Rattle.std.specs.Prelude.{ℕ, ◌+◌, ◌-◌, min, max, Bool, true, false, cond, not, ◌&&◌, ◌||◌, ltb}
use mathlib.Core.List.{List, [], ◌∷◌, ◌++◌, map, flatten}
use Rattle.rules.specs.Lists.{keep, any, is_empty}
use Rattle.rules.specs.Piece.{Piece, Event, ticks_per_quarter}
use Rattle.rules.specs.RawNotes.{RawNote, raw_notes}
use Rattle.rules.specs.Bars.{Bar, bars, bar_end}
use Rattle.rules.specs.Grid.{grid}
use Rattle.rules.specs.Voices.{Chord, voices}
use Rattle.rules.specs.Values.{Value, split_span}
use Rattle.rules.specs.Items.{Item, Staff}

abbrev pub rest_of : Value → Item
rest_of v =
    record { code = v.code; dots = v.dots; tie_in = false; tie_out = false; unpitched = false; rest = true; keys = 0 }

-- rests for a gap of t ticks
abbrev pub rests : ℕ → ℕ → List Item
rests p t = map rest_of (split_span p t).pieces

abbrev pub piece_of : Chord → Bool → Bool → Value → Item
piece_of c is_in is_out v =
    record { code = v.code; dots = v.dots; tie_in = is_in; tie_out = is_out; unpitched = c.unpitched; rest = false; keys = c.keys }

-- The pieces of a chord in a bar. Tie-in: not the first piece, or the chord began before the bar. Tie-out: not the last piece, or the chord
-- ends after the bar.
unfoldable pub pieces : Chord → Bool → Bool → List Value → List Item
pieces c is_in is_out [] = []
pieces c is_in is_out (v ∷ vs) = piece_of c is_in (not (is_empty vs) || is_out) v ∷ pieces c true is_out vs

-- a chord in the bar from b to e
abbrev pub chord_in : ℕ → ℕ → ℕ → Chord → List Item
chord_in p b e c =
    pieces c (ltb c.start b) (ltb e c.end) (split_span p (min e c.end - max b c.start)).pieces

-- the chord sounds in the bar from b to e
abbrev pub sounds_in : ℕ → ℕ → Chord → Bool
sounds_in b e c = ltb b c.end && ltb c.start e

-- chords that sound in the bar from b to e, with rests for the gaps, from tick t on
unfoldable pub filled : ℕ → ℕ → ℕ → ℕ → List Chord → List Item
filled p b e t [] = rests p (e - t)
filled p b e t (c ∷ cs) = rests p (max b c.start - t) ++ (chord_in p b e c ++ filled p b e (min e c.end) cs)

-- voice 0, and each other voice with something sounding in the bar
abbrev pub is_written : Bool → Bar → List Chord → Bool
is_written is_first b cs = is_first || any (sounds_in b.start (bar_end b)) cs

-- A voice in a bar. Voices 1 to 3 with nothing sounding are empty; voice 0 gets rests.
unfoldable pub voice_in : ℕ → Bool → Bar → List Chord → List Item
voice_in p is_first b cs =
    cond (is_written is_first b cs)
    (filled p b.start (bar_end b) b.start (keep (sounds_in b.start (bar_end b)) cs))
    []

-- the voices in a bar, voice 0 first
abbrev pub voices_in : ℕ → List (List Chord) → Bar → List (List Item)
voices_in p [] b = []
voices_in p (v ∷ vs) b = voice_in p true b v ∷ map (voice_in p false b) vs

-- The staff of voices in bars.
abbrev pub staff_of : ℕ → List (List Chord) → List Bar → Staff
staff_of p vs bs = map (voices_in p vs) bs

-- The engraved staff of notes on a grid, and of a part's raw notes on their own grid.
abbrev pub engraved_on : ℕ → ℕ → List RawNote → List Bar → Staff
engraved_on p g ns bs = staff_of p (voices g ns) bs

abbrev pub engraved : ℕ → List RawNote → List Bar → Staff
engraved p ns bs = engraved_on p (grid p ns) ns bs

-- a part's engraved staff
abbrev pub part_staff : Piece → List Event → Staff
part_staff x es = engraved (ticks_per_quarter x) (raw_notes es) (bars x)

-- ---- leftovers (M-101): the ticks that no written value took

-- of a gap of t ticks, and of a chord in the bar from b to e: what its span's values leave
abbrev pub rests_left : ℕ → ℕ → ℕ
rests_left p t = (split_span p t).left

abbrev pub chord_left : ℕ → ℕ → ℕ → Chord → ℕ
chord_left p b e c = (split_span p (min e c.end - max b c.start)).left

-- Of chords that sound in the bar from b to e and of the gaps, from tick t on: they add up.
unfoldable pub filled_left : ℕ → ℕ → ℕ → ℕ → List Chord → ℕ
filled_left p b e t [] = rests_left p (e - t)
filled_left p b e t (c ∷ cs) = rests_left p (max b c.start - t) + (chord_left p b e c + filled_left p b e (min e c.end) cs)

-- Of a voice in a bar: voices 1 to 3 with nothing sounding have 0. Sounding decides, not the items: a voice that sounds may have none.
unfoldable pub voice_left : ℕ → Bool → Bar → List Chord → ℕ
voice_left p is_first b cs =
    cond (is_written is_first b cs)
    (filled_left p b.start (bar_end b) b.start (keep (sounds_in b.start (bar_end b)) cs))
    0

-- of the voices in a bar, voice 0 first
abbrev pub voices_left : ℕ → List (List Chord) → Bar → List ℕ
voices_left p [] b = []
voices_left p (v ∷ vs) b = voice_left p true b v ∷ map (voice_left p false b) vs

-- The list of a staff: bar by bar and voice by voice.
abbrev pub leftovers_of : ℕ → List (List Chord) → List Bar → List ℕ
leftovers_of p vs bs = flatten (map (voices_left p vs) bs)

-- of notes on a grid, and of a part
abbrev pub leftovers_on : ℕ → ℕ → List RawNote → List Bar → List ℕ
leftovers_on p g ns bs = leftovers_of p (voices g ns) bs

abbrev pub staff_leftovers : Piece → List Event → List ℕ
staff_leftovers x es = leftovers_on (ticks_per_quarter x) (grid (ticks_per_quarter x) (raw_notes es)) (raw_notes es) (bars x)
