-- Entries passed over at once: where a span is shorter than a code without a dot, no entry up to that one fits.
use Prim.Native.Nat.{ℕ, zero, suc, ◌+◌, ◌-◌, ◌*◌, ◌/◌, ◌%◌, ◌^◌, ◌<◌, ◌≤◌}
use mathlib.Core.Bool.{false, ◌&&◌, and-false}
use mathlib.Core.List.{List, [], ◌∷◌, flat_map}
use mathlib.Core.Logic.{inl, inr}
use mathlib.Core.Path.{◌≡◌, sym, ap, ◌∙◌}
use native.Mathlib.Nat.{zero-add, add-zero, mul-le-mul_left, le_refl, pow-succ'}
use native.Mathlib.Numerals.{add-one}
use native.Mathlib.Omega.{arith}
use borrow.Author.Tests.{lt-leb}
use lib.Dec.{ltb, leb}
use lib.Ieee.Nearest.{div_mono}
use lib.ListN.{get_or}
use lib.Pow.{pow_pos, pow_mono}
use Rattle.rules.specs.Values.{ticks_of, is_whole}
use Rattle.laws.specs.Sort.{count}
use Rattle.laws.proofs.Order.{by_bool}
use Rattle.values.specs.Table.{entry_of, table_of, Skips}

module _ (p : ℕ) where
  -- entry i of n codes from c on
  pairs_at : (n c i : ℕ) → i < 2 * n
      → get_or (flat_map (λ c. entry_of p c 1 ∷ entry_of p c 0 ∷ []) (count c n)) i 0 ≡ entry_of p (c + i / 2) (1 - i % 2)
  unfolding count flat_map
  pairs_at zero c i h = absurd (omega arith)
  pairs_at (suc n) c zero h = ap (λ (k : ℕ). entry_of p k 1) (sym (add-zero c))
  pairs_at (suc n) c (suc zero) h = ap (λ (k : ℕ). entry_of p k 0) (sym (add-zero c))
  pairs_at (suc n) c (suc (suc i)) h =
      let code : suc c + i / 2 ≡ c + suc (suc i) / 2 = omega arith in
      let dots : i % 2 ≡ suc (suc i) % 2 = omega arith in
      rw (← code, ← dots) (pairs_at n (suc c) i (omega arith))

  table_at : (i : ℕ) → i < 18 → get_or (table_of p) i 0 ≡ entry_of p (i / 2) (1 - i % 2)
  unfolding table_of count flat_map
  table_at i h = pairs_at 9 0 i h ∙ ap (λ (c : ℕ). entry_of p c (1 - i % 2)) (zero-add (i / 2))

  -- a code without a dot is no longer than a code up to it, with a dot or none
  ticks_fall : (c k d : ℕ) → c ≤ k → d ≤ 1 → ticks_of p k 0 ≤ ticks_of p c d
  ticks_fall c k zero h l =
      let few : p * 2 ^ (c + 0) ≤ p * 2 ^ (k + 0) = mul-le-mul_left p (pow_mono (omega arith)) in
      div_mono _ _ _ _ (pow_pos (k + 0)) (pow_pos (c + 0)) (omega arith)
  ticks_fall c k (suc zero) h l =
      let few : p * 2 ^ (c + 1) ≤ p * 2 ^ (k + 0 + 1) = mul-le-mul_left p (pow_mono (omega arith)) in
      div_mono _ _ _ _ (pow_pos (k + 0)) (pow_pos (c + 1)) (omega (arith, rw (add-one (k + 0), pow-succ') at few))
  ticks_fall c k (suc (suc d)) h l = absurd (omega arith)

  -- the entry is 0, or all of its ticks
  entry_few : (c d : ℕ) → entry_of p c d ≤ ticks_of p c d
  entry_few c d = elim (by_bool (is_whole p c d)) [ inl e ↦ rw e (le_refl _) | inr e ↦ rw e (omega arith) ]

  entry_over : (c d t : ℕ) → t < ticks_of p c d → (ltb 0 (entry_of p c d) && leb (entry_of p c d) t) ≡ false
  entry_over c d t h = elim (by_bool (is_whole p c d)) [ inl e ↦ rw (e, lt-leb _ _ h, and-false) | inr e ↦ rw e ]

-- a span shorter than entry j, which has no dot
pub skips : {table : List ℕ} {t r : ℕ} (j : ℕ) → j < 18 → j % 2 ≡ 1 → t < get_or table j 0 → r ≤ j + 1 → Skips table t r
skips {table} {t} {r} j inside odd short h =
    record {
      within = omega arith;
      none_fits = λ p e i before.
          let few : t < ticks_of p (j / 2) 0 = omega (arith, rw (e, table_at p j inside, odd) at short, entry_few p (j / 2) 0) in
          let longer = ticks_fall p (i / 2) (j / 2) (1 - i % 2) (omega arith) (omega arith) in
          rw (e, table_at p i (omega arith)) (entry_over p (i / 2) (1 - i % 2) t (omega arith));
    }
