-- Section 4, Bars: their starts and lengths, and what is marked on them.
use Rattle.std.specs.Prelude.{ℕ, zero, suc, ◌+◌, ◌*◌, ◌/◌, ◌%◌, ◌^◌, max, Bool, true, false, not, ◌&&◌, eqb, leb, ltb, pos, ◌+ℤ◌, nat_abs}
use mathlib.Core.List.{List, [], ◌∷◌, map, flat_map}
use Rattle.std.proofs.Math.Option.{Option, none, some}
use Rattle.rules.specs.Lists.{keep, last_or, largest, flag, bit}
use Rattle.rules.specs.Piece.{Piece, Event, first_track, ticks_per_quarter}
use Rattle.rules.specs.RawNotes.{RawNote, raw_notes, parts}
use Rattle.rules.specs.Changes.{Change, Meter, Key, same_meter, first_meter, tempo_changes, meter_changes, key_changes}

-- The meter in force at a tick: of the changes at or before it the last, else the head's.
abbrev pub meter_at : List (Change Meter) → Meter → ℕ → Meter
meter_at cs m t = last_or m (map (λ (c : Change Meter). c.to) (keep (λ (c : Change Meter). leb c.tick t) cs))

-- A bar's length: 4 p upper / lower, whole part, at least 1.
abbrev pub bar_length : ℕ → Meter → ℕ
bar_length p m = max 1 (4 * p * m.upper / m.lower)

pub record Bar : Type 0 where
  pub start : ℕ
  pub len : ℕ
  pub meter : Meter

abbrev pub bar_end : Bar → ℕ
bar_end b = b.start + b.len

-- Bars from tick t on, until the end tick is reached, n of them at most. The meter is a function of the tick.
unfoldable pub bars_from : ℕ → ℕ → (ℕ → Meter) → ℕ → ℕ → List Bar
bars_from zero p m end t = []
bars_from (suc n) p m end t =
    record { start = t; len = bar_length p (m t); meter = m t }
    ∷ elim (leb end (t + bar_length p (m t))) [ true ↦ [] | false ↦ bars_from n p m end (t + bar_length p (m t)) ]

-- The end of the piece: the largest raw end of all parts.
unfoldable pub end_of_piece : Piece → ℕ
end_of_piece x = largest (map (λ (n : RawNote). n.end) (flat_map raw_notes (parts x)))

-- The import's limit.
abbrev pub most_bars : ℕ
most_bars = 10000

-- Bars by a track's changes: from tick 0, with the head's meter, limit of them at most.
abbrev pub bars_in : ℕ → ℕ → List Event → ℕ → List Bar
bars_in limit p es end = bars_from limit p (meter_at (meter_changes es) (first_meter es)) end 0

-- A piece's bars go by the changes of its first track.
unfoldable pub bars_up_to : ℕ → Piece → List Bar
bars_up_to limit x = bars_in limit (ticks_per_quarter x) (first_track x) (end_of_piece x)

abbrev pub bars : Piece → List Bar
bars x = bars_up_to most_bars x

-- the end of the last bar
abbrev pub last_bar_end : List Bar → ℕ
last_bar_end bs = last_or 0 (map bar_end bs)

-- ---- marks

-- The meter is printed on bar 1 and where it differs from the bar before.
unfoldable pub printed_from : Meter → List Bar → List Bool
printed_from m [] = []
printed_from m (b ∷ bs) = not (same_meter m b.meter) ∷ printed_from b.meter bs

abbrev pub printed : List Bar → List Bool
printed [] = []
printed (b ∷ bs) = true ∷ printed_from b.meter bs

-- A tempo after tick 0 is marked on the bar that starts at its tick; the last wins; 0 is absent.
abbrev pub tempo_mark : List (Change ℕ) → ℕ → ℕ
tempo_mark cs t =
    last_or 0 (map (λ (c : Change ℕ). c.to) (keep (λ (c : Change ℕ). eqb c.tick t && ltb 0 t) cs))

-- A key is marked on the bar that starts at its tick; the last wins.
abbrev pub key_mark : List (Change Key) → ℕ → Option Key
key_mark cs t = last_or none (map (λ (c : Change Key). some c.to) (keep (λ (c : Change Key). eqb c.tick t) cs))

-- bits 27 to 32: fifths + 8, and minor; 0 is absent
abbrev pub key_bits : Option Key → ℕ
key_bits none = 0
key_bits (some k) = nat_abs (k.fifths +ℤ pos 8) * 2 ^ 27 + flag k.minor * 2 ^ 32

-- A bar's mark: bits 0 to 7 upper, 8 to 15 lower, 16 printed, 17 to 26 tempo, 27 to 31 fifths + 8, 32 minor.
abbrev pub mark_of : Meter → Bool → ℕ → Option Key → ℕ
mark_of m is_printed tempo key = m.upper + m.lower * 2 ^ 8 + flag is_printed * 2 ^ 16 + tempo * 2 ^ 17 + key_bits key

-- The fields of a mark, read back: figures, whether the meter is printed (1), tempo, fifths + 8, minor (1).
abbrev pub mark_upper : ℕ → ℕ
mark_upper mark = mark % 2 ^ 8

abbrev pub mark_lower : ℕ → ℕ
mark_lower mark = mark / 2 ^ 8 % 2 ^ 8

abbrev pub mark_meter : ℕ → Meter
mark_meter mark = record { upper = mark_upper mark; lower = mark_lower mark }

abbrev pub mark_printed : ℕ → ℕ
mark_printed mark = bit 16 mark

abbrev pub mark_tempo : ℕ → ℕ
mark_tempo mark = mark / 2 ^ 17 % 2 ^ 10

abbrev pub mark_fifths : ℕ → ℕ
mark_fifths mark = mark / 2 ^ 27 % 2 ^ 5

abbrev pub mark_minor : ℕ → ℕ
mark_minor mark = bit 32 mark

-- The marks of bars, each with whether its meter is printed.
unfoldable pub marks_from : List (Change ℕ) → List (Change Key) → List Bar → List Bool → List ℕ
marks_from ts ks [] ps = []
marks_from ts ks (b ∷ bs) [] = []
marks_from ts ks (b ∷ bs) (is_printed ∷ ps) =
    mark_of b.meter is_printed (tempo_mark ts b.start) (key_mark ks b.start) ∷ marks_from ts ks bs ps

abbrev pub marks_in : List Event → List Bar → List ℕ
marks_in es bs = marks_from (tempo_changes es) (key_changes es) bs (printed bs)

-- Output: starts, and marks.
abbrev pub starts_of : List Bar → List ℕ
starts_of bs = map (λ (b : Bar). b.start) bs

abbrev pub starts : Piece → List ℕ
starts x = starts_of (bars x)

abbrev pub marks : Piece → List ℕ
marks x = marks_in (first_track x) (bars x)
