-- `printer::print_opened` is safe: each array has its length. A lemma says so, since a search would walk the array.
use Prim.Native.Nat.{ℕ, ◌≤◌}
use mathlib.Core.List.{List}
use mathlib.Core.Path.{◌≡◌, sym}
use native.Mathlib.Omega.{arith}
use lib.ListN.{length, replicate, length-replicate}
use Rattle.pages.specs.Spots.{sheet}
use Rattle.page_openings.specs.Places.{Rooms}
use Rattle.printer.proofs.Rooms.{ready_items}
use Rattle.printer.proofs.print_opened.Goals as goal

rooms : (cs hs ks ss ms : List ℕ) → length cs ≡ 40000 → length hs ≡ 60000 → length ks ≡ 120000 → 10000 ≤ length ss → 10000 ≤ length ms
    → Rooms (sheet cs hs ks ss ms)
rooms cs hs ks ss ms ec eh ek hs₂ hm =
    record { counts = omega arith; keys = omega arith; starts = hs₂; marks = hm }

pub slice_bounds-print_lent-end : goal.slice_bounds-print_lent-end
slice_bounds-print_lent-end c = sym (length-replicate {A = ℕ} 40000 0)

pub slice_bounds-print_lent-end-2 : goal.slice_bounds-print_lent-end-2
slice_bounds-print_lent-end-2 c = sym (length-replicate {A = ℕ} 60000 0)

pub slice_bounds-print_lent-end-3 : goal.slice_bounds-print_lent-end-3
slice_bounds-print_lent-end-3 c = sym (length-replicate {A = ℕ} 120000 0)

pub slice_bounds-print_lent-end-4 : goal.slice_bounds-print_lent-end-4
slice_bounds-print_lent-end-4 c = c.large_buffer-out.ensures

pub print_lent-requires : goal.print_lent-requires
print_lent-requires c =
    record {
      within = c.requires.within;
      ready_for =
          ready_items c.args.opened (length {A = ℕ} (replicate 60000 0)) (length c.args.work.now)
          c.args.sizes.now c.args.deltas.now c.args.words.now
          c.args.starts.now c.args.marks.now (length-replicate {A = ℕ} 60000 0) c.requires.ready_for;
      rooms =
          rooms (replicate 40000 0) (replicate 60000 0) (replicate 120000 0) c.args.starts.now c.args.marks.now
          (length-replicate {A = ℕ} 40000 0) (length-replicate {A = ℕ} 60000 0) (length-replicate {A = ℕ} 120000 0)
          c.requires.in_bounds.0 c.requires.in_bounds.1;
      in_bounds = omega (arith, c.large_buffer-out.ensures);
    }

pub shape_of-work : goal.shape_of-work
shape_of-work c = omega arith
