-- `file_tracks::gather_tracks` gathers the tracks of all chunks. Invariant: the tracks are those so far, and then those of the bytes that are left.
use Prim.Native.Nat.{◌-◌, ◌≤◌}
use mathlib.Core.Path.{◌≡◌}
use lib.ListN.{length}
use Rattle.file_tracks.proofs.Laws.{Chunks}
use Rattle.file_tracks.proofs.gather_tracks.Given as goal

abbrev pub invariant-loop-at : goal.invariant-loop-at
invariant-loop-at l = (l.at ≤ length l.bytes) × (l.g.events ≤ l.at) × (l.g.tracks ≤ l.at)
    × (length l.sizes ≡ length l.initial.sizes) × (length l.deltas ≡ length l.initial.deltas) × (length l.words ≡ length l.initial.words)
    × Chunks l.bytes l.start l.g l.at l.initial.sizes l.initial.deltas l.initial.words l.sizes l.deltas l.words

abbrev pub decreases-loop-at : goal.decreases-loop-at
decreases-loop-at l = length l.bytes - l.at
