-- `ons` counts note-ons. The invariant: the count so far and the note-ons of the blocks left make the whole.
use Prim.Native.Nat.{◌+◌, ◌≤◌}
use mathlib.Core.Path.{◌≡◌}
use lib.ListN.{length}
use Rattle.rules.specs.Lists.{keep}
use Rattle.rules.specs.Piece.{is_on}
use Rattle.tracks.proofs.ons.Given as goal

abbrev pub invariant-loop-block : goal.invariant-loop-block
invariant-loop-block l =
    record {
      size : l.block-iterator.size ≡ 256;
      few : l.n + length l.block-iterator.rest.now ≤ length l.words;
      count : l.n + length (keep is_on l.block-iterator.rest.now) ≡ length (keep is_on l.words);
      can_next : (goal.iterator-loop-block).can_next l.block-iterator;
      is_finite : (goal.iterator-loop-block).is_finite l.block-iterator;
    }
