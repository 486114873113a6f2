-- A part's arrays are as long as its size says, and a part that passes is engraved where there is room for it.
use Prim.Native.Nat.{ℕ, ◌*◌, ◌≤◌}
use mathlib.Core.Path.{◌≡◌, sym}
use native.Mathlib.Omega.{arith}
use borrow.Author.Tests.{le-ltb}
use lib.ListN.{length, length-map}
use Rattle.rules.specs.Piece.{Piece, ticks_per_quarter}
use Rattle.rules.specs.Bars.{bars}
use Rattle.rules.specs.Grid.{grid}
use Rattle.rules.specs.Items.{head_of, items_of}
use Rattle.rules.specs.Voices.{voices}
use Rattle.rules.specs.Staff.{part_staff}
use Rattle.rules.specs.Refusals.{given, part_refusals, work_needed}
use Rattle.rules.specs.Calls.{part_track, part_notes, part_size, part_arrays, part_leftovers, part_lists, engrave_call}
use Rattle.laws.specs.Admitted.{Passes}
use Rattle.laws.proofs.Lists.{All-append}
use Rattle.laws.proofs.Refusals.{passes_given}
use Rattle.laws.proofs.VoiceLaws.{voices_four}
use Rattle.items.proofs.Appending.{keys_length}
use Rattle.laws.proofs.Leftovers.{leftovers_length}
use Rattle.staff.proofs.StaffSizes.{counts_length}

module _ (x : Piece) (k : ℕ) where
  pub counts_used : 4 * (part_size x k).bars ≡ length (part_arrays x k).counts
  counts_used = sym (counts_length (ticks_per_quarter x) (voices (grid (ticks_per_quarter x) (part_notes x k)) (part_notes x k)) (voices_four _ _) (bars x))

  pub heads_used : (part_size x k).items ≡ length (part_arrays x k).heads
  heads_used = sym (length-map (items_of (part_staff x (part_track x k))) head_of)

  pub keys_used : 2 * (part_size x k).items ≡ length (part_arrays x k).keys
  keys_used = sym (keys_length (items_of (part_staff x (part_track x k))))

  pub leftovers_used : 4 * (part_size x k).bars ≡ length (part_leftovers x k)
  leftovers_used =
      sym (leftovers_length (ticks_per_quarter x) (voices (grid (ticks_per_quarter x) (part_notes x k)) (part_notes x k)) (voices_four _ _) (bars x))

  pub engraves_part : (counts heads keys leftovers work : ℕ) → Passes (part_refusals x k) → work_needed x ≤ work → 4 * (part_size x k).bars ≤ counts
      → (part_size x k).items ≤ heads → 2 * (part_size x k).items ≤ keys → 4 * (part_size x k).bars ≤ leftovers
      → engrave_call x k counts heads keys leftovers work ≡ given (part_lists x k)
  engraves_part counts heads keys leftovers work part enough cs hs ks ls =
      passes_given _ (part_lists x k)
      (All-append _ (part_refusals x k) _ part (
        le-ltb work (work_needed x) enough,
        (
          le-ltb counts (length (part_arrays x k).counts) (omega (arith, counts_used, cs)),
          (
            le-ltb heads (length (part_arrays x k).heads) (omega (arith, heads_used, hs)),
            (
              le-ltb keys (length (part_arrays x k).keys) (omega (arith, keys_used, ks)),
              (le-ltb leftovers (length (part_leftovers x k)) (omega (arith, leftovers_used, ls)), tt),
            ),
          ),
        ),
      ))
