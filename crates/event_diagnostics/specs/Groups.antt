-- Groups 2 and 3: the events that a pass over a track looks for.
use Rattle.std.specs.Prelude.{ℕ, ◌+◌, ◌*◌, ◌/◌, ◌≤◌, ◌<◌, ◌^◌, Bool, List, [], ◌∷◌, map, length}
use Rattle.rules.specs.Lists.{keep, first_or}
use Rattle.rules.specs.Piece.{Event, is_kind, largest_size}
use Rattle.rules.specs.Changes.{Meter, common_time, meter_of}
use Rattle.rules.specs.Diagnostics.{Diagnostic, at_event, is_off_measure}
use Rattle.track_events.specs.Track.{Track}
use Rattle.event_diagnostics.specs.declared.Group.{Group}
use Rattle.event_diagnostics.specs.declared.Group.TheVariants.{OffMeasure, System}

-- the first meter of a track's words, else 4/4
abbrev pub meter_in : List ℕ → Meter
meter_in ws = first_or common_time (map meter_of (keep (is_kind 3) ws))

abbrev pub meter_length : ℕ → Meter → ℕ
meter_length p m = 4 * p * m.upper / m.lower

abbrev pub off_measure : ℕ → ℕ → ℕ → Bool
off_measure l t w = is_off_measure l (record { number = 0; tick = t; word = w })

abbrev pub code_of : Group → ℕ
code_of (OffMeasure l) = 2
code_of System = 3

abbrev pub is_found : Group → ℕ → ℕ → Bool
is_found (OffMeasure l) t w = off_measure l t w
is_found System t w = is_kind 1 w

-- what is found in a track
abbrev pub found_of : Group → ℕ → List Event → List Diagnostic
found_of g track es = map (at_event (code_of g) track) (keep (λ (e : Event). is_found g e.tick e.word) es)

abbrev pub found_one : Group → ℕ → Event → List Diagnostic
found_one g track e = found_of g track (e ∷ [])

pub record Searchable (ds ws : List ℕ) (track at : ℕ) : Type 0 where
  pub events : Track ds ws
  pub numbered : track ≤ largest_size
  pub room : at + length ds < 2 ^ 32
