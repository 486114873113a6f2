-- The events of a track, and so its raw notes, are in range: ticks below 2^47, keys below 128, channels below 16.
use Prim.Native.Nat.{ℕ, suc, ◌+◌, ◌*◌, ◌<◌, ◌≤◌, ◌^◌}
use mathlib.Core.Bool.{true}
use mathlib.Core.List.{List, [], ◌∷◌}
use mathlib.Core.Path.{◌≡◌}
use native.Mathlib.Omega.{arith}
use lib.ListN.{length}
use Rattle.rules.specs.Lists.{All}
use Rattle.rules.specs.Piece.{timed, well_formed, is_on, is_off}
use Rattle.rules.specs.RawNotes.{raw_notes}
use Rattle.rules.specs.Refusals.{largest_delta}
use Rattle.laws.specs.NoteWords.{InRange}
use Rattle.laws.proofs.NoteRanges.{EventIn, notes_in_range}
use Rattle.laws.proofs.Order.{by_or}
use Rattle.track_events.specs.Track.{Track, events_of}
use Rattle.track_events.proofs.Tracks.{note_bounds}

pub events_in : (limit n t : ℕ) (ds ws : List ℕ) → t + length ds * largest_delta < limit → All (λ d. d ≤ largest_delta) ds → All (λ w. well_formed w ≡ true) ws
    → All (EventIn limit) (timed n t ds ws)
unfolding timed
events_in limit n t [] ws l h k = tt
events_in limit n t (d ∷ ds) [] l h k = tt
events_in limit n t (d ∷ ds) (w ∷ ws) l h k = (
  record {
    tick = omega arith;
    key = λ b. (note_bounds w k.0 (by_or (is_on w) (is_off w) b)).first;
    channel = λ b. (note_bounds w k.0 (by_or (is_on w) (is_off w) b)).channel;
  },
  events_in limit (suc n) (t + d) ds ws (omega arith) h.1 k.1,
)

pub track_events : {ds ws : List ℕ} → Track ds ws → All (EventIn (2 ^ 47)) (events_of ds ws)
track_events {ds} {ws} track = events_in (2 ^ 47) 0 0 ds ws (omega (arith, track.few)) track.small track.formed

pub track_notes : {ds ws : List ℕ} → Track ds ws → All (InRange (2 ^ 47)) (raw_notes (events_of ds ws))
track_notes {ds} {ws} track = notes_in_range (2 ^ 47) (events_of ds ws) (omega arith) (track_events track)
