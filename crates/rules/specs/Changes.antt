-- Section 3, Changes: tempo, meter and key of the first track, and the two heads.
use Rattle.std.specs.Prelude.{ℕ, ◌/◌, ◌%◌, min, max, Bool, cond, not, ◌&&◌, eqb, ℤ, pos, negsuc}
use mathlib.Core.List.{List, map, head?}
use Rattle.std.proofs.Math.Option.{Option, none, some}
use Rattle.std.specs.Int.Signed.{lt_z}
use Rattle.rules.specs.Lists.{keep, first_or}
use Rattle.rules.specs.Piece.{Piece, Event, first_track, is_kind, byte_a, byte_b, tempo_value, upper_figure, lower_figure, signed_fifths, is_minor}

-- a change at a tick
pub record Change (A : Type 0) : Type 0 where
  pub tick : ℕ
  pub to : A

pub record Meter : Type 0 where
  pub upper : ℕ
  pub lower : ℕ

pub record Key : Type 0 where
  pub fifths : ℤ
  pub minor : Bool

abbrev pub same_meter : Meter → Meter → Bool
same_meter a b = eqb a.upper b.upper && eqb a.lower b.lower

-- Tempo in beats per minute: the whole part of 60,000,000 / value, kept modulo 65,536, then clamped to 1 to 999.
abbrev pub tempo_of : ℕ → ℕ
tempo_of v = min 999 (max 1 (60000000 / v % 65536))

-- Fifths clamp to -7 to 7.
abbrev pub clamp_fifths : ℤ → ℤ
clamp_fifths z = cond (lt_z z (negsuc 6)) (negsuc 6) (cond (lt_z (pos 7) z) (pos 7) z)

-- A tempo of value 0 is skipped.
abbrev pub tempo_changes : List Event → List (Change ℕ)
tempo_changes es =
    map (λ (e : Event). record { tick = e.tick; to = tempo_of (tempo_value e.word) })
    (keep (λ (e : Event). is_kind 2 e.word && not (eqb (tempo_value e.word) 0)) es)

abbrev pub meter_of : ℕ → Meter
meter_of w = record { upper = upper_figure w; lower = lower_figure w }

abbrev pub meter_changes : List Event → List (Change Meter)
meter_changes es =
    map (λ (e : Event). record { tick = e.tick; to = meter_of e.word }) (keep (λ (e : Event). is_kind 3 e.word) es)

abbrev pub key_of : ℕ → Key
key_of w = record { fifths = clamp_fifths (signed_fifths w); minor = is_minor w }

abbrev pub key_changes : List Event → List (Change Key)
key_changes es =
    map (λ (e : Event). record { tick = e.tick; to = key_of e.word }) (keep (λ (e : Event). is_kind 4 e.word) es)

-- the changes of tick 0
abbrev pub at_zero : {A : Type 0} → List (Change A) → List A
at_zero cs = map (λ c. c.to) (keep (λ c. eqb c.tick 0) cs)

-- The head has the first tempo of tick 0, else 120, and the first meter of tick 0, else 4/4.
abbrev pub first_tempo : List Event → ℕ
first_tempo es = first_or 120 (at_zero (tempo_changes es))

abbrev pub common_time : Meter
common_time = record { upper = 4; lower = 4 }

abbrev pub first_meter : List Event → Meter
first_meter es = first_or common_time (at_zero (meter_changes es))

-- The very first key change if at tick 0; otherwise the key is absent.
abbrev pub key_if_at_zero : Option (Change Key) → Option Key
key_if_at_zero none = none
key_if_at_zero (some c) = cond (eqb c.tick 0) (some c.to) none

abbrev pub first_key : List Event → Option Key
first_key es = key_if_at_zero (head? (key_changes es))

pub record Head : Type 0 where
  pub tempo : ℕ
  pub meter : Meter
  pub key : Option Key

abbrev pub head_in : List Event → Head
head_in es = record { tempo = first_tempo es; meter = first_meter es; key = first_key es }

-- Only from the first track.
abbrev pub head : Piece → Head
head x = head_in (first_track x)

-- A part's head: channel and program.
pub record PartHead : Type 0 where
  pub channel : ℕ
  pub program : ℕ

-- Its first program change, else channel 0, program 0.
abbrev pub part_head : List Event → PartHead
part_head es =
    first_or (record { channel = 0; program = 0 })
    (map (λ (e : Event). record { channel = byte_a e.word; program = byte_b e.word }) (keep (λ (e : Event). is_kind 12 e.word) es))
