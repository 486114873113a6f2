-- How what the program reads goes together with what the definition reads. bs is the whole track, and the definition reads from position `at` on.
use Rattle.std.specs.Prelude.{ℕ, ◌-◌, ◌≤◌, ◌<◌, true, false, List, ◌≡◌, length, take, drop, None, Some}
use Rattle.std.specs.Prelude as std
use Rattle.std.proofs.Math.Option.{Option, none, some}
use Rattle.rules.specs.Piece.{well_formed}
use Rattle.rules.specs.Standard.{Message, channel}
use Rattle.rules.specs.File.{Front, Timed, word_of, is_end, status_after}
use Rattle.file_events.specs.declared.Quantity.{Quantity}
use Rattle.file_events.specs.declared.Span.{Span}
use Rattle.file_events.specs.declared.Taken.{Taken}
use Rattle.file_events.specs.declared.TimedEvent.{TimedEvent}

-- what the program finds, in the words of the definition
abbrev pub found : {A : Type 0} → std.Option A → Option A
found None = none
found (Some a) = some a

-- what stands behind position `at`, up to where
pub record Behind (bs : List ℕ) (at : ℕ) (left : List ℕ) (next : ℕ) : Type 0 where
  pub rest : left ≡ drop next bs
  pub ahead : at < next
  pub within : next ≤ length bs

-- ---- numbers

pub record NumberIs (bs : List ℕ) (at : ℕ) (n : Front ℕ) (q : Quantity) : Type 0 where
  pub value : q.value ≡ n.read
  pub behind : Behind bs at n.rest q.next

abbrev pub number_read : std.Option Quantity → Option Quantity
number_read = found

-- ---- data

pub record SpanIs (bs : List ℕ) (at : ℕ) (d : Front (List ℕ)) (s : Span) : Type 0 where
  pub is : d.read ≡ take (s.to - s.from) (drop s.from bs)
  pub from : s.from ≤ s.to
  pub behind : Behind bs at d.rest s.to

abbrev pub span_read : std.Option Span → Option Span
span_read = found

-- ---- events

-- the status of a channel message
pub record ChannelStatus (s : ℕ) : Type 0 where
  pub least : 0x80 ≤ s
  pub most : s < 0xf0

-- a running status: none, or that of a channel message
abbrev pub Status : std.Option ℕ → Type 0
Status None = Unit {0}
Status (Some s) = ChannelStatus s

-- a running status as the definition writes it: 0 for none
abbrev pub status_of : std.Option ℕ → ℕ
status_of None = 0
status_of (Some s) = s

-- what is taken of a channel message
abbrev pub channel_taken : ℕ → ℕ → ℕ → ℕ → Taken
channel_taken s x y next = record { word = word_of (channel s x y); good = true; ends = false; running = Some s; next = next }

pub record MessageIs (bs : List ℕ) (at : ℕ) (m : Front Message) (t : Taken) : Type 0 where
  pub word : t.word ≡ word_of m.read
  pub good : t.good ≡ well_formed t.word
  pub ends : t.ends ≡ is_end m.read
  pub running : status_of t.running ≡ status_after m.read
  pub status : Status t.running
  pub behind : Behind bs at m.rest t.next

abbrev pub message_read : std.Option Taken → Option Taken
message_read = found

pub record EventIs (bs : List ℕ) (at : ℕ) (e : Front Timed) (t : TimedEvent) : Type 0 where
  pub delta : t.delta ≡ e.read.delta
  pub word : t.event.word ≡ word_of e.read.message
  pub good : t.event.good ≡ well_formed t.event.word
  pub ends : t.event.ends ≡ is_end e.read.message
  pub running : status_of t.event.running ≡ status_after e.read.message
  pub status : Status t.event.running
  pub behind : Behind bs at e.rest t.event.next

abbrev pub event_read : std.Option TimedEvent → Option TimedEvent
event_read = found
