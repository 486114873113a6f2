-- The table of values is the division's, and four voices stand in the work area.
use Prim.Native.Nat.{ℕ, ◌-◌, ◌*◌, ◌%◌, ◌<◌, ◌^◌}
use mathlib.Core.Bool.{true}
use mathlib.Core.List.{List, flat_map}
use mathlib.Core.Path.{◌≡◌}
use native.Mathlib.Omega.{arith}
use borrow.Author.Tests.{eq-eqb}
use lib.ListN.{length, get_or}
use Rattle.rules.specs.Values.{is_whole}
use Rattle.laws.proofs.Places.{up_to_length}
use Rattle.values.specs.Table.{table_of}
use Rattle.items.specs.Writing.{quarter, IsTable}
use Rattle.bar_voice.specs.Voices.{voice_of}
use Rattle.staff.specs.Bars.{voices_of}

pub quarter_is : (p : ℕ) → quarter (table_of p) ≡ p
unfolding table_of flat_map
quarter_is p =
    let whole : is_whole p 4 0 ≡ true = eq-eqb (16 * p * (2 ^ 1 - 1) % 2 ^ 4) 0 (omega arith) in
    rw whole (omega arith)

pub table_is : (p : ℕ) → 0 < p → IsTable (table_of p)
table_is p h = record { some_ticks = rw (quarter_is p) h; is = rw (quarter_is p) }

pub four_voices : (n : ℕ) (w lens : List ℕ) → length (voices_of n w lens) ≡ 4
four_voices n w lens = up_to_length (λ v. voice_of n w v (get_or lens v 0)) 4
