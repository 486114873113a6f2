-- Where the walk stands, by the events of a track: between two events, and at a bar whose changes are taken.
use Rattle.std.specs.Prelude.{ℕ, ◌+◌, ◌≤◌, ◌<◌, ◌^◌, Bool, ◌||◌, List, ◌≡◌, leb, ltb, length, take, drop}
use Rattle.rules.specs.Lists.{keep, position, All, written}
use Rattle.rules.specs.Piece.{Event, largest_size}
use Rattle.rules.specs.Changes.{Meter, tempo_changes, meter_changes, key_changes, first_meter}
use Rattle.rules.specs.Bars.{Bar, meter_at, tempo_mark, key_mark, key_bits, starts_of, marks_in}
use Rattle.track_events.specs.Track.{Track, events_of, tick_at}
use Rattle.bar_marks.specs.Marks.{key_packed}
use Rattle.bar_walk.specs.declared.Walker.{Walker}
use Rattle.bar_walk.specs.Steps.{meter_in, new_walker, is_change, with_place}

-- A track's meter in force at a tick.
abbrev pub track_meter : List ℕ → List ℕ → ℕ → Meter
track_meter ds ws t = meter_at (meter_changes (events_of ds ws)) (first_meter (events_of ds ws)) t

-- The walker at tick 0, with the head's meter.
abbrev pub first_walker : List ℕ → List ℕ → ℕ → Walker
first_walker ds ws p = new_walker p (first_meter (events_of ds ws)).upper (first_meter (events_of ds ws)).lower

-- the events that the walker has taken, and those left
abbrev pub taken_by : List ℕ → List ℕ → Walker → List Event
taken_by ds ws w = take w.at (events_of ds ws)

abbrev pub left_for : List ℕ → List ℕ → Walker → List Event
left_for ds ws w = drop w.at (events_of ds ws)

-- The first `at` events are taken, none of them after the bar's start.
pub record Taking (ds ws : List ℕ) (w : Walker) : Type 0 where
  pub within : w.at ≤ length ds
  pub tick : w.tick ≡ tick_at w.at ds
  pub reached : w.tick ≤ w.start
  pub past : All (λ (e : Event). e.tick ≤ w.start) (taken_by ds ws w)
  pub lower : 0 < w.lower
  pub meter : meter_in w ≡ meter_at (meter_changes (taken_by ds ws w)) (first_meter (events_of ds ws)) w.start
  pub tempo : w.tempo ≡ tempo_mark (tempo_changes (taken_by ds ws w)) w.start
  pub key : key_packed w.fifths w.minor ≡ key_bits (key_mark (key_changes (taken_by ds ws w)) w.start)

-- The walker stands at a bar, and has taken every change at or before the bar's start.
pub record AtBar (ds ws : List ℕ) (w : Walker) : Type 0 where
  pub taken : Taking ds ws w
  pub coming : All (λ (e : Event). w.start < e.tick) (left_for ds ws w)
  pub at : w.at ≡ length (keep (λ (e : Event). leb e.tick w.start) (events_of ds ws))
  pub meter : meter_in w ≡ track_meter ds ws w.start
  pub tempo : w.tempo ≡ tempo_mark (tempo_changes (events_of ds ws)) w.start
  pub key : key_packed w.fifths w.minor ≡ key_bits (key_mark (key_changes (events_of ds ws)) w.start)

-- a walker whose bar's changes can be taken
pub record Ready (ds ws : List ℕ) (w : Walker) : Type 0 where
  pub track : Track ds ws
  pub taking : Taking ds ws w
  pub start : w.start < 2 ^ 48

-- an event at which a walk to the tick t stops: a change, or one after t
abbrev pub stops_at : ℕ → Event → Bool
stops_at t e = ltb t e.tick || is_change e.word

-- r is the walker w, moved on to the next change or to the first event after the bar's start
pub record Skipped (ds ws : List ℕ) (w r : Walker) : Type 0 where
  pub taking : Taking ds ws r
  pub at : r.at ≡ w.at + position (stops_at w.start) (left_for ds ws w)
  pub rest : r ≡ with_place w r.at r.tick

-- r is at the same bar as w, in the same walk
pub record SameBar (w r : Walker) : Type 0 where
  pub p : r.p ≡ w.p
  pub start : r.start ≡ w.start
  pub upper : r.was_upper ≡ w.was_upper
  pub lower : r.was_lower ≡ w.was_lower

-- r is the walker w with its bar's changes taken
pub record Settled (ds ws : List ℕ) (w r : Walker) : Type 0 where
  pub bar : AtBar ds ws r
  pub same : SameBar w r

-- a walk over a track, with p ticks per quarter, up to an end tick
pub record CanWalk (ds ws : List ℕ) (p end : ℕ) : Type 0 where
  pub track : Track ds ws
  pub ticks : p ≤ largest_size
  pub end_fits : end < 2 ^ 48

-- outputs with room for the bars bs
pub record Room (bs : List Bar) (starts marks : List ℕ) : Type 0 where
  pub starts_fit : length bs ≤ length starts
  pub marks_fit : length bs ≤ length marks

-- The bars bs of a track's events es: r is their count, and the two outputs hold their starts and marks.
pub record BarsAre (es : List Event) (bs : List Bar) (starts₀ marks₀ : List ℕ) (r : ℕ) (starts marks : List ℕ) : Type 0 where
  pub count : r ≡ length bs
  pub starts_are : starts ≡ written (starts_of bs) starts₀
  pub marks_are : marks ≡ written (marks_in es bs) marks₀
