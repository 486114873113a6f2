-- Which words each of the four lists holds, and what the functions that count and write them answer.
use Rattle.std.specs.Prelude.{ℕ, ◌+◌, ◌≤◌, Bool, false, not, ◌&&◌, List, ◌≡◌, get_or}
use Rattle.rules.specs.Lists.{flag}
use Rattle.rules.specs.Piece.{Event, channel_of}
use Rattle.rules.specs.Automation.{is_bend, is_controller, is_program, is_pressure, automation_lists}
use Rattle.automation_events.specs.declared.Kind.{Kind}
use Rattle.automation_events.specs.declared.Kind.TheVariants.{Bend, Controller, Program, Pressure}
use Rattle.automation_events.specs.declared.Counts.{Counts}

-- the words of a kind
abbrev pub is_one : Kind → ℕ → Bool
is_one Bend w = is_bend w
is_one Controller w = is_controller w
is_one Program w = is_program w
is_one Pressure w = is_pressure w

-- a word of a kind on a channel that is not dropped
abbrev pub wanted : Kind → List Bool → ℕ → Bool
wanted k dropped w = is_one k w && not (get_or dropped (channel_of w) false)

-- ---- counts

abbrev pub count_of : Kind → Counts → ℕ
count_of Bend s = s.bends
count_of Controller s = s.controllers
count_of Program s = s.programs
count_of Pressure s = s.pressures

-- one word more is counted
pub record Counted (s : Counts) (dropped : List Bool) (w : ℕ) (r : Counts) : Type 0 where
  pub each : (k : Kind) → count_of k r ≡ count_of k s + flag (wanted k dropped w)

pub record AtMost (n : ℕ) (s : Counts) : Type 0 where
  pub each : (k : Kind) → count_of k s ≤ n

-- the counts of section 9, which do not depend on p
pub record AreCounts (es : List Event) (r : Counts) : Type 0 where
  pub bends : (p : ℕ) → r.bends ≡ (automation_lists p es).bends
  pub controllers : (p : ℕ) → r.controllers ≡ (automation_lists p es).controllers
  pub programs : (p : ℕ) → r.programs ≡ (automation_lists p es).programs
  pub pressures : (p : ℕ) → r.pressures ≡ (automation_lists p es).pressures
