-- What is known of a piece that the numbers let pass.
use Rattle.std.specs.Prelude.{ℕ, ◌≤◌, ◌<◌, ◌^◌, true, false, List, ◌≡◌, length}
use Rattle.rules.specs.Lists.{All}
use Rattle.rules.specs.Piece.{Piece, Event, division, sizes_agree, well_formed, ticks_per_quarter, tracks}
use Rattle.rules.specs.Refusals.{Refusal, most_events, largest_delta}

-- no refusal of a list applies
abbrev pub Passes : List Refusal → Type 0
Passes rs = All (λ (r : Refusal). r.applies ≡ false) rs

-- numbers 1 to 5 let the piece pass
pub record Admitted (x : Piece) : Type 0 where
  pub sizes : sizes_agree x ≡ true
  pub divided : 0 < division x
  pub events : length x.deltas ≤ most_events
  pub deltas : All (λ d. d ≤ largest_delta) x.deltas
  pub words : All (λ w. well_formed w ≡ true) x.words

-- Document 01: a tick stays below 2^47.
abbrev pub TicksBelow : ℕ → List (List Event) → Type 0
TicksBelow n ess = All (All (λ (e : Event). e.tick < n)) ess

abbrev pub TicksStayBelow : Type 0
TicksStayBelow = (x : Piece) → Admitted x → TicksBelow (2 ^ 47) (tracks x)

-- 480 for timecode, else the division: never 0
abbrev pub TicksPerQuarterPositive : Type 0
TicksPerQuarterPositive = (x : Piece) → Admitted x → 0 < ticks_per_quarter x
