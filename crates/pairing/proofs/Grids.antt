-- Sixteen rows of 128: what a store leaves, and the rows of zeros.
use Prim.Native.Nat.{ℕ, ◌<◌}
use mathlib.Core.List.{List, []}
use mathlib.Core.Logic.{◌⊎◌, inl, inr, ⊎_elim}
use mathlib.Core.Path.{◌≡◌, refl, sym, ap, ◌∙◌}
use native.Mathlib.Omega.{arith}
use lib.ListN.{length, get_or, set, replicate, length-set, get_or-replicate}
use lib.Seq.{get_or-set_same, get_or-set_other}
use Rattle.laws.proofs.Order.{by_eq}
use Rattle.pairing.specs.Queues.{Grid, Empty, cell, put}

-- the same place, or another
pub by_place : (c c' k k' : ℕ) → ((c ≡ c') × (k ≡ k')) ⊎ ((c ≡ c') × (k ≡ k') → ⊥)
by_place c c' k k' =
    ⊎_elim (λ p. ⊎_elim (λ q. inl (p, q)) (λ q. inr (λ e. q e.1)) (by_eq k k')) (λ p. inr (λ e. p e.0)) (by_eq c c')

module _ {h : List (List ℕ)} (g : Grid h) (c k v : ℕ) (lc : c < 16) (lk : k < 128) where
  row_here : get_or (put h c k v) c [] ≡ set (get_or h c []) k v
  row_here = get_or-set_same h c (set (get_or h c []) k v) [] (omega (arith, g.rows))

  pub put_here : cell (put h c k v) c k ≡ v
  put_here = rw row_here (get_or-set_same (get_or h c []) k v 0 (omega (arith, g.row c lc)))

  pub put_there : (c' k' : ℕ) → ((c ≡ c') × (k ≡ k') → ⊥) → cell (put h c k v) c' k' ≡ cell h c' k'
  put_there c' k' ne =
      ⊎_elim
      (λ e. rw (← e, row_here) (get_or-set_other (get_or h c []) k k' v 0 (λ q. ne (e, sym q))))
      (λ d. ap (λ (r : List ℕ). get_or r k' 0) (get_or-set_other h c c' (set (get_or h c []) k v) [] (λ q. d (sym q))))
      (by_eq c c')

  pub put_grid : Grid (put h c k v)
  put_grid =
      record {
        rows = length-set h c (set (get_or h c []) k v) ∙ g.rows;
        row = λ c' l.
            ⊎_elim
            (λ e. rw (← e, row_here, length-set) (g.row c lc))
            (λ d. ap length (get_or-set_other h c c' (set (get_or h c []) k v) [] (λ q. d (sym q))) ∙ g.row c' l)
            (by_eq c c');
      }

-- `[[0; 128]; 16]`
abbrev pub zeros : List (List ℕ)
zeros = replicate 16 (replicate {A = ℕ} 128 0)

pub zeros_grid : Grid zeros
zeros_grid = record { rows = refl; row = λ c l. rw (get_or-replicate 16 c (replicate {A = ℕ} 128 0) [] l) }

pub zeros_empty : Empty zeros
zeros_empty =
    record {
      grid = zeros_grid;
      none = λ c k l m. rw (get_or-replicate 16 c (replicate {A = ℕ} 128 0) [] l) (get_or-replicate 128 k 0 0 m);
    }
