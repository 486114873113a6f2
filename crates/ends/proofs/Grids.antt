-- Counts in sixteen rows of 128: a store changes its own cell and no other.
use Prim.Native.Nat.{ℕ, ◌<◌}
use mathlib.Core.Bool.{cond, ◌&&◌}
use mathlib.Core.List.{List, []}
use mathlib.Core.Logic.{inl, inr}
use mathlib.Core.Path.{◌≡◌, refl, sym, ap, ◌∙◌}
use native.Mathlib.Omega.{arith}
use borrow.Author.Tests.{eq-eqb, ne_eqb}
use lib.Dec.{eqb}
use lib.ListN.{length, get_or, set, replicate, length-set, get_or-replicate}
use lib.Seq.{get_or-set_same, get_or-set_other, ext_get_or}
use Rattle.laws.proofs.Order.{by_eq}
use Rattle.ends.specs.Pass.{cell, put, no_counts}
use Rattle.laws.proofs.Places.{of_replicate}

pub record Grid (rows : List (List ℕ)) : Type 0 where
  pub count : length rows ≡ 16
  pub row : (c : ℕ) → c < 16 → length (get_or rows c []) ≡ 128

pub zeros : Grid no_counts
zeros = record { count = refl; row = λ c h. rw (get_or-replicate 16 c (replicate {A = ℕ} 128 0) [] h) }

pub zeros_cell : (c k : ℕ) → cell no_counts c k ≡ 0
zeros_cell c k =
    of_replicate (λ r. get_or r k 0 ≡ 0) 16 c (replicate 128 0) [] (of_replicate (λ m. m ≡ 0) 128 k 0 0 refl refl) refl

-- rows in which every cell is zero
pub all_zero : {rows : List (List ℕ)} → Grid rows → ((c k : ℕ) → c < 16 → k < 128 → cell rows c k ≡ 0) → rows ≡ no_counts
all_zero {rows} grid h =
    ext_get_or [] rows no_counts grid.count
    (λ c i.
    let here : c < 16 = omega (arith, grid.count, i) in
    ext_get_or 0 (get_or rows c []) (get_or no_counts c []) (grid.row c here ∙ sym (zeros.row c here))
    (λ k j. h c k here (omega (arith, grid.row c here, j)) ∙ sym (zeros_cell c k)))

module _ (rows : List (List ℕ)) (c k v : ℕ) where
  same_row : (c < length rows) → get_or (put rows c k v) c [] ≡ set (get_or rows c []) k v
  same_row h = get_or-set_same rows c (set (get_or rows c []) k v) [] h

  other_row : (c' : ℕ) → (c' ≡ c → ⊥) → get_or (put rows c k v) c' [] ≡ get_or rows c' []
  other_row c' n = get_or-set_other rows c c' (set (get_or rows c []) k v) [] n

  module _ (grid : Grid rows) (h : c < 16) (l : k < 128) where
    pub put_cell : (c' k' : ℕ) → cell (put rows c k v) c' k' ≡ cond (eqb c' c && eqb k' k) v (cell rows c' k')
    put_cell c' k' =
        elim (by_eq c' c) [
          | inl e ↦
              elim (by_eq k' k) [
                | inl i ↦
                    rw (eq-eqb c' c e, eq-eqb k' k i)
                    (rw (e, i, same_row (omega (arith, grid.count))) (get_or-set_same (get_or rows c []) k v 0 (omega (arith, grid.row c h))))
                | inr n ↦
                    rw (eq-eqb c' c e, ne_eqb k' k n)
                    (rw (e, same_row (omega (arith, grid.count))) (get_or-set_other (get_or rows c []) k k' v 0 n))
              ]
          | inr n ↦ rw (ne_eqb c' c n) (ap (λ (r : List ℕ). get_or r k' 0) (other_row c' n))
        ]

    pub put_grid : Grid (put rows c k v)
    put_grid = record { count = rw length-set grid.count; row = row }
      where
        row : (c' : ℕ) → c' < 16 → length (get_or (put rows c k v) c' []) ≡ 128
        row c' h' =
            elim (by_eq c' c) [
              | inl e ↦ rw (e, same_row (omega (arith, grid.count)), length-set) (grid.row c h)
              | inr n ↦ rw (other_row c' n) (grid.row c' h')
            ]
