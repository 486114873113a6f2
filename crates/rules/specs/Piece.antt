-- Section 1, Piece: the three arrays, the ticks, and the table of kinds.
use Rattle.std.specs.Prelude.{ℕ, suc, ◌+◌, ◌*◌, ◌/◌, ◌%◌, ◌^◌, Bool, cond, not, ◌&&◌, ◌||◌, List, [], ◌∷◌, eqb, leb, ltb, ℤ, length, get_or, take, drop}
use Rattle.std.proofs.Math.IntN.{sub_ℕ}
use Rattle.rules.specs.Lists.{sum, bit}

-- ---- the arrays

-- Document 01's piece ("record 1"): sizes, and two parallel arrays.
pub record Piece : Type 0 where
  pub sizes : List ℕ
  pub deltas : List ℕ
  pub words : List ℕ

abbrev pub piece : List ℕ → List ℕ → List ℕ → Piece
piece sizes deltas words = record { sizes = sizes; deltas = deltas; words = words }

-- Sizes: the division, the track count T, then T event counts.
abbrev pub division : Piece → ℕ
division x = get_or x.sizes 0 0

abbrev pub track_count : Piece → ℕ
track_count x = get_or x.sizes 1 0

abbrev pub event_counts : Piece → List ℕ
event_counts x = drop 2 x.sizes

-- The largest track count and division.
abbrev pub largest_size : ℕ
largest_size = 65535

-- Sizes is 2 + T long, both other arrays are as long as the counts' sum, and T and the division are at most 65,535.
unfoldable pub sizes_agree : Piece → Bool
sizes_agree x =
    eqb (length x.sizes) (2 + track_count x)
    && eqb (length x.deltas) (sum (event_counts x))
    && eqb (length x.words) (sum (event_counts x))
    && leb (track_count x) largest_size
    && leb (division x) largest_size

-- Bit 15 of the division says timecode.
abbrev pub timecode : Piece → Bool
timecode x = eqb (bit 15 (division x)) 1

-- The ticks per quarter, p of document 01: 480 for timecode, else the division.
abbrev pub ticks_per_quarter : Piece → ℕ
ticks_per_quarter x = cond (timecode x) 480 (division x)

-- ---- ticks and tracks

-- An event: its number in its track, from 0; its tick, the sum of deltas through it; its word.
pub record Event : Type 0 where
  pub number : ℕ
  pub tick : ℕ
  pub word : ℕ

-- the events of a track, from its deltas and words; n and t are the number and the tick reached before
unfoldable pub timed : ℕ → ℕ → List ℕ → List ℕ → List Event
timed n t [] ws = []
timed n t (d ∷ ds) [] = []
timed n t (d ∷ ds) (w ∷ ws) = record { number = n; tick = t + d; word = w } ∷ timed (suc n) (t + d) ds ws

-- the arrays cut into tracks by their event counts; each track starts at tick 0
unfoldable pub cut_tracks : List ℕ → List ℕ → List ℕ → List (List Event)
cut_tracks [] ds ws = []
cut_tracks (n ∷ ns) ds ws = timed 0 0 (take n ds) (take n ws) ∷ cut_tracks ns (drop n ds) (drop n ws)

abbrev pub tracks : Piece → List (List Event)
tracks x = cut_tracks (event_counts x) x.deltas x.words

-- the first track; it has no events where there is no track
abbrev pub first_track : Piece → List Event
first_track x = get_or (tracks x) 0 []

-- ---- words

-- A word's bytes from the top: the kind, a, b, c.
abbrev pub kind_of : ℕ → ℕ
kind_of w = w / 2 ^ 24

abbrev pub byte_a : ℕ → ℕ
byte_a w = w / 2 ^ 16 % 256

abbrev pub byte_b : ℕ → ℕ
byte_b w = w / 2 ^ 8 % 256

abbrev pub byte_c : ℕ → ℕ
byte_c w = w % 256

-- a word from its bytes
abbrev pub word : ℕ → ℕ → ℕ → ℕ → ℕ
word kind a b c = kind * 2 ^ 24 + a * 2 ^ 16 + b * 2 ^ 8 + c

abbrev pub is_kind : ℕ → ℕ → Bool
is_kind k w = eqb (kind_of w) k

-- The largest power of a meter's lower figure.
abbrev pub largest_power : ℕ
largest_power = 7

-- in range by the table of kinds; unused bytes are 0
unfoldable pub well_formed : ℕ → Bool
well_formed w =
    -- 0, 1, 6: other meta, system event, end of track
    (is_kind 0 w || is_kind 1 w || is_kind 6 w) && eqb (byte_a w) 0 && eqb (byte_b w) 0 && eqb (byte_c w) 0
    -- 2: tempo, 24 bits
    || is_kind 2 w
    -- 3: meter, upper figure and power of the lower
    || is_kind 3 w && leb (byte_b w) largest_power && eqb (byte_c w) 0
    -- 4: key, fifths as a signed byte and minor 0 or 1
    || is_kind 4 w && leb (byte_b w) 1 && eqb (byte_c w) 0
    -- 5: marker, any base and spare
    || is_kind 5 w && eqb (byte_c w) 0
    -- 8, 9, 10, 11, 14: a channel and two data bytes
    || (is_kind 8 w || is_kind 9 w || is_kind 10 w || is_kind 11 w || is_kind 14 w) && leb (byte_a w) 15 && leb (byte_b w) 127 && leb (byte_c w) 127
    -- 12, 13: a channel and one data byte
    || (is_kind 12 w || is_kind 13 w) && leb (byte_a w) 15 && leb (byte_b w) 127 && eqb (byte_c w) 0

-- 2: microseconds per quarter, the 24 bits abc
abbrev pub tempo_value : ℕ → ℕ
tempo_value w = w % 2 ^ 24

-- 3: the upper and the lower figure
abbrev pub upper_figure : ℕ → ℕ
upper_figure w = byte_a w

abbrev pub lower_figure : ℕ → ℕ
lower_figure w = 2 ^ byte_b w

-- 4: the fifths, a as a signed byte, and minor
abbrev pub signed_fifths : ℕ → ℤ
signed_fifths w = cond (ltb (byte_a w) 128) (sub_ℕ (byte_a w) 0) (sub_ℕ (byte_a w) 256)

abbrev pub is_minor : ℕ → Bool
is_minor w = eqb (byte_b w) 1

-- 8 to 14: the channel
abbrev pub channel_of : ℕ → ℕ
channel_of w = byte_a w

-- 14: the bend's value, b + 128 c - 8192
abbrev pub bend_value : ℕ → ℤ
bend_value w = sub_ℕ (byte_b w + 128 * byte_c w) 8192

-- A note-on with velocity 0 is a note-off (section 2's first rule).
abbrev pub is_on : ℕ → Bool
is_on w = is_kind 9 w && not (eqb (byte_c w) 0)

abbrev pub is_off : ℕ → Bool
is_off w = is_kind 8 w || is_kind 9 w && eqb (byte_c w) 0
