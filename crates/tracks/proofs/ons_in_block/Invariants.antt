-- `ons_in_block` counts note-ons. The invariant: the count so far and the note-ons of what is left make the block's.
use Prim.Native.Nat.{◌+◌, ◌≤◌}
use mathlib.Core.Path.{◌≡◌}
use lib.ListN.{length, drop}
use Rattle.rules.specs.Lists.{keep}
use Rattle.rules.specs.Piece.{is_on}
use Rattle.tracks.proofs.ons_in_block.Given as goal

abbrev pub invariant-loop-w : goal.invariant-loop-w
invariant-loop-w l = (l.n ≤ l.w-index) × (l.n + length (keep is_on (drop l.w-index l.block)) ≡ length (keep is_on l.block))
