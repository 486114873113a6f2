-- `print_file::open_input`: the room for the bytes has its length. A lemma says so, since a search would walk the array.
use Prim.Native.Nat.{ℕ}
use mathlib.Core.Path.{sym}
use lib.ListN.{length-replicate}
use Rattle.print_file.proofs.open_input.Goals as goal

pub slice_bounds-open_held-end : goal.slice_bounds-open_held-end
slice_bounds-open_held-end c = sym (length-replicate {A = ℕ} 1000001 0)

pub open_held-requires : goal.open_held-requires
open_held-requires c = length-replicate {A = ℕ} 1000001 0

pub returns : goal.returns
returns c = c.open_held.ensures
