-- The steps of reading a head: the first tempo, the first meter and the first key of the words that are taken.
use Rattle.std.specs.Prelude.{ℕ, cond, eqb, Option, None, Some}
use Rattle.std.specs.Option.{option_or, unwrap_or}
use Rattle.rules.specs.Piece.{is_kind, tempo_value, upper_figure, lower_figure, signed_fifths, is_minor}
use Rattle.rules.specs.Changes.{tempo_of, clamp_fifths}
use Rattle.changes.specs.declared.Head.{Head}
use Rattle.changes.specs.declared.Key.{Key}
use Rattle.changes.specs.declared.Meter.{Meter}
use Rattle.changes.specs.declared.Reading.{Reading}

-- a tempo of value 0 is skipped
abbrev pub tempo_in : ℕ → Option ℕ
tempo_in w = cond (eqb (tempo_value w) 0) None (Some (tempo_of (tempo_value w)))

abbrev pub meter_in : ℕ → Meter
meter_in w = record { upper = upper_figure w; lower = lower_figure w }

abbrev pub key_in : ℕ → Key
key_in w = record { fifths = clamp_fifths (signed_fifths w); minor = is_minor w }

unfoldable pub took : Reading → ℕ → Reading
took r w =
    cond (is_kind 2 w) (record { tempo = option_or r.tempo (tempo_in w); meter = r.meter; key = r.key })
    (cond (is_kind 3 w) (record { tempo = r.tempo; meter = option_or r.meter (Some (meter_in w)); key = r.key })
    (cond (is_kind 4 w) (record { tempo = r.tempo; meter = r.meter; key = option_or r.key (Some (key_in w)) }) r))

abbrev pub four_four : Meter
four_four = record { upper = 4; lower = 4 }

abbrev pub head_read : Reading → Head
head_read r =
    record {
      tempo = unwrap_or r.tempo 120;
      upper = (unwrap_or r.meter four_four).upper;
      lower = (unwrap_or r.meter four_four).lower;
      key = r.key;
    }
