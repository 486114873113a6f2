-- `file_tracks::read_track` gathers a track's events. Invariant: the track is the events so far, and then those of the bytes that are left.
use Prim.Native.Nat.{ℕ, ◌+◌, ◌-◌, ◌≤◌}
use mathlib.Core.List.{List}
use mathlib.Core.Path.{◌≡◌}
use lib.ListN.{length}
use Rattle.rules.specs.File.{Timed}
use Rattle.file_events.specs.Events.{Status, status_of}
use Rattle.file_tracks.specs.Gathering.{EventsHeld}
use Rattle.file_tracks.proofs.Laws.{Progress}
use Rattle.file_tracks.proofs.read_track.Given as goal

abbrev pub invariant-loop-at : goal.invariant-loop-at
invariant-loop-at l = (l.at ≤ length l.body) × Status l.running × (length l.deltas ≡ length l.initial.deltas) × (length l.words ≡ length l.initial.words)
    × (l.g.events ≤ l.initial.g.events + l.at) × (l.initial.g.events ≤ l.g.events) × (l.g.tracks ≡ l.initial.g.tracks)
    × ((ds ws : List ℕ) (es : List Timed) → EventsHeld es l.initial.g ds ws l.initial.deltas l.initial.words → Progress l.body es l.g (status_of l.running) l.at ds ws l.deltas l.words)

abbrev pub decreases-loop-at : goal.decreases-loop-at
decreases-loop-at l = length l.body - l.at
