-- What the functions that write the lists ask and answer.
use Rattle.std.specs.Prelude.{ℕ, ◌+◌, ◌≤◌, ◌<◌, ◌^◌, Bool, true, cond, List, map, ◌++◌, ◌≡◌, length, set, take}
use Rattle.rules.specs.Lists.{keep, flag, written}
use Rattle.rules.specs.Piece.{Event, largest_size, well_formed}
use Rattle.rules.specs.Automation.{automation_tick, automation_lists}
use Rattle.track_events.specs.Track.{Track, events_of}
use Rattle.automation_events.specs.declared.Choice.{Choice}
use Rattle.automation_events.specs.declared.Kind.{Kind}
use Rattle.automation_events.specs.declared.Counts.{Counts}
use Rattle.auxiliary_channels.specs.Markers.{Drops}
use Rattle.automation_events.specs.Kinds.{wanted, AreCounts}

abbrev pub choice_of : List Bool → ℕ → Kind → Choice
choice_of dropped p k = record { kind = k; dropped = dropped; p = p }

abbrev pub chosen : Choice → ℕ → Bool
chosen x w = wanted x.kind x.dropped w

-- ---- one event

pub record CanPut (ticks out : List ℕ) (n : ℕ) (x : Choice) (t w : ℕ) : Type 0 where
  pub formed : well_formed w ≡ true
  pub early : t < 2 ^ 48
  pub positive : 0 < x.p
  pub small : x.p ≤ largest_size
  pub room : chosen x w ≡ true → (n < length ticks) × (n < length out)

-- the event is written at n where it is chosen
pub record Put (ticks₀ out₀ : List ℕ) (n : ℕ) (x : Choice) (t w r : ℕ) (ticks' out' : List ℕ) : Type 0 where
  pub next : r ≡ n + flag (chosen x w)
  pub ticks : ticks' ≡ cond (chosen x w) (set ticks₀ n (automation_tick x.p t)) ticks₀
  pub words : out' ≡ cond (chosen x w) (set out₀ n w) out₀

-- ---- one list

-- the events that are chosen, their ticks and their words
abbrev pub chosen_of : Choice → List Event → List Event
chosen_of x es = keep (λ (e : Event). chosen x e.word) es

abbrev pub ticks_of : Choice → List Event → List ℕ
ticks_of x es = map (λ (e : Event). automation_tick x.p e.tick) (chosen_of x es)

abbrev pub words_of : Choice → List Event → List ℕ
words_of x es = map (λ (e : Event). e.word) (chosen_of x es)

-- the list has count events, and the outputs have room for them from n on
pub record HasRoom (es : List Event) (x : Choice) (count n : ℕ) (ticks₀ out₀ : List ℕ) : Type 0 where
  pub positive : 0 < x.p
  pub small : x.p ≤ largest_size
  pub counted : count ≡ length (chosen_of x es)
  pub ticks : n + length (chosen_of x es) ≤ length ticks₀
  pub words : n + length (chosen_of x es) ≤ length out₀

-- the list is written from n on
pub record Collected (es : List Event) (x : Choice) (n : ℕ) (ticks₀ out₀ : List ℕ) (r : ℕ) (ticks' out' : List ℕ) : Type 0 where
  pub next : r ≡ n + length (chosen_of x es)
  pub ticks : ticks' ≡ written (take n ticks₀ ++ ticks_of x es) ticks₀
  pub words : out' ≡ written (take n out₀ ++ words_of x es) out₀

-- ---- all lists

pub record CanCollect (ds ws : List ℕ) (p : ℕ) (dropped : List Bool) (counts : Counts) (ticks₀ out₀ : List ℕ) : Type 0 where
  pub track : Track ds ws
  pub drops : Drops (events_of ds ws) dropped
  pub positive : 0 < p
  pub small : p ≤ largest_size
  pub counted : AreCounts (events_of ds ws) counts
  pub ticks : length (automation_lists p (events_of ds ws)).ticks ≤ length ticks₀
  pub words : length (automation_lists p (events_of ds ws)).words ≤ length out₀
