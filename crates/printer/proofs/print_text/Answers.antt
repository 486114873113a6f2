-- `printer::print_text` hands what was read to `print_read`: each array has its length. A lemma says so, since a search would walk the array.
use Prim.Native.Nat.{ℕ}
use mathlib.Core.Path.{sym}
use lib.ListN.{length-replicate}
use Rattle.printer.proofs.print_text.Goals as goal

pub slice_bounds-read_text-end : goal.slice_bounds-read_text-end
slice_bounds-read_text-end c = sym (length-replicate {A = ℕ} 65537 0)

pub slice_bounds-read_text-end-2 : goal.slice_bounds-read_text-end-2
slice_bounds-read_text-end-2 c = sym (length-replicate {A = ℕ} 500000 0)

pub slice_bounds-read_text-end-3 : goal.slice_bounds-read_text-end-3
slice_bounds-read_text-end-3 c = sym (length-replicate {A = ℕ} 500000 0)

pub print_read-requires : goal.print_read-requires
print_read-requires c = record { bytes = _; held = c.read_text-read.ensures }
