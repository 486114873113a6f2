-- A word taken apart, and what is known of one track of an admitted piece.
use Rattle.std.specs.Prelude.{ℕ, ◌≤◌, ◌<◌, ◌-◌, true, List, ◌≡◌, length, take, drop}
use Rattle.rules.specs.Lists.{All, sum}
use Rattle.rules.specs.Piece.{Event, timed, kind_of, byte_a, byte_b, byte_c, well_formed}
use Rattle.rules.specs.Refusals.{most_events, largest_delta}
use Rattle.track_events.specs.declared.Word.{Word}
use Rattle.track_events.specs.Kinds.{IsKind}

-- r is the word w taken apart
pub record IsWord (w : ℕ) (r : Word) : Type 0 where
  pub number : r.number ≡ kind_of w
  pub kind : IsKind (kind_of w) r.kind
  pub a : r.a ≡ byte_a w
  pub b : r.b ≡ byte_b w
  pub c : r.c ≡ byte_c w

-- The deltas and words of one track of an admitted piece.
pub record Track (ds ws : List ℕ) : Type 0 where
  pub same : length ws ≡ length ds
  pub few : length ds ≤ most_events
  pub small : All (λ d. d ≤ largest_delta) ds
  pub formed : All (λ w. well_formed w ≡ true) ws

-- The events of one track.
abbrev pub events_of : List ℕ → List ℕ → List Event
events_of ds ws = timed 0 0 ds ws

-- What `&s[from..to]` lends.
abbrev pub stretch : ℕ → ℕ → List ℕ → List ℕ
stretch from to l = take (to - from) (drop from l)

-- The events of a track from event i on, where t is the tick reached before.
abbrev pub left : ℕ → ℕ → List ℕ → List ℕ → List Event
left t i ds ws = timed i t (drop i ds) (drop i ws)

-- The tick reached before event i.
abbrev pub tick_at : ℕ → List ℕ → ℕ
tick_at i ds = sum (take i ds)

-- A word that names a channel: the ranges of its bytes.
pub record Channelled (w : ℕ) : Type 0 where
  pub channel : byte_a w < 16
  pub first : byte_b w < 128
  pub second : byte_c w < 128
