-- Two channels compared: a place in a track, and the next automation event of a channel.
use Rattle.std.specs.Prelude.{ℕ, ◌+◌, ◌≤◌, ◌<◌, Bool, true, ◌&&◌, List, ◌≡◌, eqb, ltb, length, get_or}
use Rattle.rules.specs.Lists.{keep}
use Rattle.rules.specs.Piece.{Event, kind_of, byte_b, byte_c, channel_of}
use Rattle.rules.specs.Automation.{is_automation, is_automation_of, same_message}
use Rattle.track_events.specs.Track.{Track, left, tick_at}
use Rattle.auxiliary_channels.specs.declared.Place.{Place}

-- a place within a track, at its tick
pub record IsPlace (ds : List ℕ) (x : Place) : Type 0 where
  pub inside : x.at ≤ length ds
  pub tick : x.tick.0 ≡ tick_at x.at ds

-- the event at a place, and the events from there on
abbrev pub event_at : List ℕ → List ℕ → Place → Event
event_at ds ws x = record { number = x.at; tick = x.tick.0 + get_or ds x.at 0; word = get_or ws x.at 0 }

abbrev pub left_at : List ℕ → List ℕ → Place → List Event
left_at ds ws x = left x.tick.0 x.at ds ws

abbrev pub is_word_of : ℕ → ℕ → Bool
is_word_of ch w = is_automation w && eqb (channel_of w) ch

-- a channel's automation from a place on
abbrev pub stream_at : List ℕ → List ℕ → ℕ → Place → List Event
stream_at ds ws ch x = keep (is_automation_of ch) (left_at ds ws x)

-- r is the place behind the event at x
pub record Behind (ds : List ℕ) (x r : Place) : Type 0 where
  pub at : r.at ≡ x.at + 1
  pub tick : r.tick.0 ≡ x.tick.0 + get_or ds x.at 0

-- a place of an automation event of the channel, or the track's end
pub record Stands (ds ws : List ℕ) (ch : ℕ) (x : Place) : Type 0 where
  pub place : IsPlace ds x
  pub found : x.at < length ds → is_word_of ch (get_or ws x.at 0) ≡ true

-- r is the place of the channel's next automation event from x on, or the track's end
pub record Next (ds ws : List ℕ) (ch : ℕ) (x r : Place) : Type 0 where
  pub stands : Stands ds ws ch r
  pub onward : x.at ≤ r.at
  pub same : stream_at ds ws ch r ≡ stream_at ds ws ch x

abbrev pub same_bytes : ℕ → ℕ → Bool
same_bytes v w = eqb (kind_of v) (kind_of w) && eqb (byte_b v) (byte_b w) && eqb (byte_c v) (byte_c w)

-- two places whose events can be compared: the second may be at the end
pub record Comparable (ds ws : List ℕ) (x y : Place) : Type 0 where
  pub track : Track ds ws
  pub first : IsPlace ds x
  pub second : IsPlace ds y
  pub inside : x.at < length ds

-- the events at two places have the same tick and message; there is none at the end
abbrev pub same_at : List ℕ → List ℕ → Place → Place → Bool
same_at ds ws x y = ltb y.at (length ds) && same_message (event_at ds ws x) (event_at ds ws y)
