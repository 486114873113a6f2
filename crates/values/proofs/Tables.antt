-- The table as a loop over the codes writes it: a pair of entries a code.
use Prim.Native.Nat.{ℕ, ◌+◌, ◌-◌, ◌*◌, ◌<◌, ◌≤◌}
use mathlib.Core.List.{List, [], ◌∷◌, flat_map, append-nil}
use mathlib.Core.Path.{◌≡◌, ◌∙◌}
use native.Mathlib.Omega.{arith}
use lib.ListN.{length, set, drop_of_length-le}
use Rattle.laws.specs.Sort.{count}
use Rattle.laws.proofs.Sort.{count_none, count_cons}
use Rattle.laws.proofs.Filling.{Filling, filling_start, filling_more, filling_end}
use Rattle.values.specs.Table.{entry_of, table_of}

-- the entries of code c and those after it
unfoldable pub table_from : ℕ → ℕ → List ℕ
table_from p c = flat_map (λ c. entry_of p c 1 ∷ entry_of p c 0 ∷ []) (count c (9 - c))

-- before code c
pub record Tabled (p c : ℕ) (l₀ l : List ℕ) : Type 0 where
  pub within : c ≤ 9
  pub size : length l₀ ≡ 18
  pub filling : Filling (table_of p) (table_from p c) (2 * c) l₀ l

pub tabled_start : (p : ℕ) (l : List ℕ) → length l ≡ 18 → Tabled p 0 l l
unfolding table_of table_from count flat_map
tabled_start p l h = record { within = omega arith; size = h; filling = filling_start (table_of p) l }

module _ {p c : ℕ} {l₀ l : List ℕ} (t : Tabled p c l₀ l) where
  tabled_next : c < 9 → Filling (table_of p) (entry_of p c 1 ∷ entry_of p c 0 ∷ table_from p (c + 1)) (2 * c) l₀ l
  unfolding table_from flat_map
  tabled_next h = rw (count_cons c 9 h) at t.filling

  pub tabled_more : c < 9 → Tabled p (c + 1) l₀ (set (set l (2 * c) (entry_of p c 1)) (2 * c + 1) (entry_of p c 0))
  tabled_more h =
      let dotted = filling_more (entry_of p c 1) (omega (arith, t.filling.kept, t.size)) (tabled_next h) in
      let plain = filling_more (entry_of p c 0) (omega (arith, dotted.kept, t.size)) dotted in
      let e : 2 * c + 1 + 1 ≡ 2 * (c + 1) = omega arith in
      record { within = omega arith; size = t.size; filling = rw e at plain }

  pub tabled_end : 9 ≤ c → l ≡ table_of p
  unfolding table_of table_from flat_map
  tabled_end h =
      let last : Filling (table_of p) [] (2 * c) l₀ l = rw (count_none c 9 h) at t.filling in
      filling_end last ∙ rw (drop_of_length-le l₀ {i = 18} (omega (arith, t.size)), append-nil)
