-- The steps of the walk: one event, one bar.
use Rattle.std.specs.Prelude.{ℕ, ◌+◌, ◌≤◌, ◌<◌, ◌^◌, Bool, true, false, cond, not, ◌&&◌, ◌≡◌, eqb, leb, ltb, pos, nat_abs, ◌+ℤ◌}
use Rattle.rules.specs.Piece.{largest_size, kind_of, is_kind, well_formed, tempo_value, upper_figure, lower_figure, signed_fifths, is_minor}
use Rattle.rules.specs.Changes.{Meter, same_meter, tempo_of, clamp_fifths}
use Rattle.rules.specs.Bars.{bar_length}
use Rattle.bar_marks.specs.Marks.{packed}
use Rattle.bar_walk.specs.declared.Walker.{Walker}

-- the meter in force
abbrev pub meter_in : Walker → Meter
meter_in w = record { upper = w.upper; lower = w.lower }

-- the meter of the bar before
abbrev pub meter_before : Walker → Meter
meter_before w = record { upper = w.was_upper; lower = w.was_lower }

abbrev pub new_walker : ℕ → ℕ → ℕ → Walker
new_walker p upper lower =
    record {
      p = p;
      upper = upper;
      lower = lower;
      was_upper = 0;
      was_lower = 0;
      start = 0;
      tempo = 0;
      fifths = 0;
      minor = false;
      at = 0;
      tick = 0;
    }

-- ---- one event

-- a tempo at the tick τ is marked on a bar that starts at t
abbrev pub marks_tempo : ℕ → ℕ → ℕ → Bool
marks_tempo t τ word = (is_kind 2 word && not (eqb (tempo_value word) 0)) && (eqb τ t && ltb 0 t)

-- a key at the tick τ is marked on a bar that starts at t
abbrev pub marks_key : ℕ → ℕ → ℕ → Bool
marks_key t τ word = is_kind 4 word && eqb τ t

-- a key's fifths + 8
abbrev pub raised_fifths : ℕ → ℕ
raised_fifths word = nat_abs (clamp_fifths (signed_fifths word) +ℤ pos 8)

-- the walker with another meter, tempo and key
abbrev pub with_marks : Walker → Meter → ℕ → ℕ → Bool → Walker
with_marks w m tempo fifths minor =
    record {
      p = w.p;
      upper = m.upper;
      lower = m.lower;
      was_upper = w.was_upper;
      was_lower = w.was_lower;
      start = w.start;
      tempo = tempo;
      fifths = fifths;
      minor = minor;
      at = w.at;
      tick = w.tick;
    }

-- one event of each kind; the walker's tick is the event's
abbrev pub took_tempo : Walker → ℕ → Walker
took_tempo w word =
    with_marks w (meter_in w)
    (cond (not (eqb (tempo_value word) 0) && (eqb w.tick w.start && ltb 0 w.start)) (tempo_of (tempo_value word)) w.tempo)
    w.fifths
    w.minor

abbrev pub took_meter : Walker → ℕ → Walker
took_meter w word = with_marks w (record { upper = upper_figure word; lower = lower_figure word }) w.tempo w.fifths w.minor

abbrev pub took_key : Walker → ℕ → Walker
took_key w word =
    with_marks w (meter_in w) w.tempo
    (cond (eqb w.tick w.start) (raised_fifths word) w.fifths)
    (cond (eqb w.tick w.start) (is_minor word) w.minor)

-- a tempo, a meter or a key: kinds 2, 3 and 4
abbrev pub is_change : ℕ → Bool
is_change word = leb 2 (kind_of word) && leb (kind_of word) 4

-- the walker before another event, with the tick reached before it
abbrev pub with_place : Walker → ℕ → ℕ → Walker
with_place w at tick =
    record {
      p = w.p;
      upper = w.upper;
      lower = w.lower;
      was_upper = w.was_upper;
      was_lower = w.was_lower;
      start = w.start;
      tempo = w.tempo;
      fifths = w.fifths;
      minor = w.minor;
      at = at;
      tick = tick;
    }

-- one event: a meter holds from it on; a tempo or a key is marked where the bar starts at its tick
abbrev pub took_one : Walker → ℕ → ℕ → Walker
took_one w delta word =
    record {
      p = w.p;
      upper = cond (is_kind 3 word) (upper_figure word) w.upper;
      lower = cond (is_kind 3 word) (lower_figure word) w.lower;
      was_upper = w.was_upper;
      was_lower = w.was_lower;
      start = w.start;
      tempo = cond (marks_tempo w.start (w.tick + delta) word) (tempo_of (tempo_value word)) w.tempo;
      fifths = cond (marks_key w.start (w.tick + delta) word) (raised_fifths word) w.fifths;
      minor = cond (marks_key w.start (w.tick + delta) word) (is_minor word) w.minor;
      at = w.at + 1;
      tick = w.tick + delta;
    }

-- ---- one bar

abbrev pub next_of : Walker → Walker
next_of w =
    record {
      p = w.p;
      upper = w.upper;
      lower = w.lower;
      was_upper = w.upper;
      was_lower = w.lower;
      start = w.start + bar_length w.p (meter_in w);
      tempo = 0;
      fifths = 0;
      minor = false;
      at = w.at;
      tick = w.tick;
    }

-- the bar's mark
abbrev pub mark_in : Walker → ℕ
mark_in w =
    packed (record {
      upper = w.upper;
      lower = w.lower;
      printed = not (same_meter (meter_before w) (meter_in w));
      tempo = w.tempo;
      fifths = w.fifths;
      minor = w.minor;
    })

-- ---- what the steps ask

-- a walker whose bar has a length and an end
pub record Sane (w : Walker) : Type 0 where
  pub ticks : w.p ≤ largest_size
  pub lower : 0 < w.lower
  pub start : w.start < 2 ^ 48

-- a walker that can take an event
pub record Takes (w : Walker) (word : ℕ) : Type 0 where
  pub tick : w.tick < 2 ^ 48
  pub at : w.at < 2 ^ 48
  pub formed : well_formed word ≡ true
