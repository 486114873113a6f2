-- `printer::print_input` hands what was read to `print_read`: each array has its length. A lemma says so, since a search would walk the array.
use Prim.Native.Nat.{ℕ}
use mathlib.Core.Path.{sym}
use lib.ListN.{length-replicate}
use Rattle.printer.proofs.print_input.Goals as goal

pub slice_bounds-read_input-end : goal.slice_bounds-read_input-end
slice_bounds-read_input-end c = sym (length-replicate {A = ℕ} 65537 0)

pub slice_bounds-read_input-end-2 : goal.slice_bounds-read_input-end-2
slice_bounds-read_input-end-2 c = sym (length-replicate {A = ℕ} 500000 0)

pub slice_bounds-read_input-end-3 : goal.slice_bounds-read_input-end-3
slice_bounds-read_input-end-3 c = sym (length-replicate {A = ℕ} 500000 0)

pub print_read-requires : goal.print_read-requires
print_read-requires c = c.read_input-read.ensures
