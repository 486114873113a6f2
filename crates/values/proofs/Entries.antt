-- A table of lengths read as values, entry by entry: to split a span by those from entry 0 on is section 6's split.
use Prim.Native.Nat.{ℕ, zero, suc, ◌+◌, ◌-◌, ◌/◌, ◌%◌, ◌<◌, ◌≤◌}
use mathlib.Core.Bool.{Bool, true, false, cond, ◌&&◌}
use mathlib.Core.List.{List, [], ◌∷◌, ◌++◌, flat_map, map}
use mathlib.Core.Logic.{inl, inr}
use mathlib.Core.Path.{◌≡◌, refl, sym, ap, ◌∙◌}
use native.Mathlib.Nat.{zero-add, div-zero, mod-zero, div-add-mod', le-mul_of_pos_right}
use native.Mathlib.Numerals.{add-one}
use native.Mathlib.Omega.{arith}
use borrow.Author.Tests.{leb-true, leb-false, lt-ltb, le-ltb}
use lib.Dec.{ltb, leb}
use lib.ListN.{length, get_or, replicate, length-append, length-replicate}
use Rattle.rules.specs.Lists.{keep}
use Rattle.rules.specs.Values.{Value, Split, value, values, is_whole, staff_codes, split_span}
use Rattle.laws.specs.Ladder.{split, left}
use Rattle.laws.specs.Sort.{count}
use Rattle.laws.proofs.Order.{by_bool, by_lt}
use Rattle.laws.proofs.Sort.{count_none, count_cons}
use Rattle.laws.proofs.Splits.{divided, divided_over, span_divided, split_zero, left_zero, split_fits, left_fits}
use Rattle.values.specs.Table.{table_of, entry, Skips, Counts}

-- the split of t ticks by the entries from i on
unfoldable pub coming : List ℕ → ℕ → ℕ → Split
coming table i t = divided (map (entry table) (count i (18 - i))) t

-- no piece, and all ticks left
abbrev pub nothing : ℕ → Split
nothing t = record { pieces = []; left = t }

-- a piece in front of a split
abbrev pub behind : Value → Split → Split
behind v s = record { pieces = v ∷ s.pieces; left = s.left }

-- an entry of 0 ticks gives no piece
divided_none : (v : Value) (vs : List Value) (t : ℕ) → v.ticks ≡ 0 → divided (v ∷ vs) t ≡ divided vs t
unfolding split left
divided_none v vs t e = rw (e, div-zero, mod-zero)

-- what the test of `fits` says
fits_says : (l t : ℕ) → (ltb 0 l && leb l t) ≡ true → (0 < l) × (l ≤ t)
fits_says l t e =
    elim (by_lt 0 l) [
      | inl h ↦ (h, leb-true l t (rw (lt-ltb 0 l h) at e))
      | inr h ↦ absurd (let z : false ≡ true = rw (le-ltb 0 l h) at e in let n : ◌≡◌ {A = ℕ} 0 1 = cc in omega arith)
    ]

-- What a loop over the entries meets at entry i.
module _ (table : List ℕ) (i t : ℕ) where
  pub coming_end : 18 ≤ i → coming table i t ≡ nothing t
  unfolding coming split left
  coming_end h = rw (count_none i 18 h)

  pub coming_zero : t ≡ 0 → coming table i t ≡ nothing t
  unfolding coming
  coming_zero z = let vs : List Value = map (entry table) (count i (18 - i)) in rw z (λ k. record { pieces = split_zero vs k; left = left_zero vs k })

  module _ (inside : i < 18) where
    pub coming_fits : (ltb 0 (get_or table i 0) && leb (get_or table i 0) t) ≡ true
        → (0 < get_or table i 0) × (get_or table i 0 ≤ t) × (coming table i t ≡ behind (entry table i) (coming table i (t - get_or table i 0)))
    unfolding coming
    coming_fits e =
        let h = fits_says (get_or table i 0) t e in
        let v : Value = entry table i in
        let vs : List Value = map (entry table) (count (i + 1) (18 - (i + 1))) in
        (h.0, h.1, rw (count_cons i 18 inside) (λ k. record { pieces = split_fits v vs t h.0 h.1 k; left = left_fits v vs t h.1 k }))

    pub coming_over : (ltb 0 (get_or table i 0) && leb (get_or table i 0) t) ≡ false → coming table i t ≡ coming table (i + 1) t
    unfolding coming
    coming_over e =
        elim (by_lt 0 (get_or table i 0)) [
          | inl h ↦
              rw (count_cons i 18 inside)
              (divided_over _ _ t (leb-false (get_or table i 0) t (rw (lt-ltb 0 (get_or table i 0) h) at e)))
          | inr h ↦ rw (count_cons i 18 inside) (divided_none _ _ t (omega arith))
        ]

    -- by a division
    pub coming_count : length (coming table i t).pieces ≡ t / get_or table i 0 + length (coming table (i + 1) (t % get_or table i 0)).pieces
    unfolding coming split
    coming_count = rw (count_cons i 18 inside, length-append, length-replicate)

    pub coming_left : (coming table i t).left ≡ (coming table (i + 1) (t % get_or table i 0)).left
    unfolding coming left
    coming_left = rw (count_cons i 18 inside)

-- The table of p lists the values of p, with 0 for those that are no whole number.
module _ (p : ℕ) where
  whole : Value → Bool
  whole v = is_whole p v.code v.dots

  listed : Value → Value
  listed v = record { code = v.code; dots = v.dots; ticks = cond (whole v) v.ticks 0 }

  divided_listed : (vs : List Value) (t : ℕ) → divided (map listed vs) t ≡ divided (keep whole vs) t
  unfolding split left keep listed
  divided_listed [] t = refl
  divided_listed (v ∷ vs) t =
      elim (by_bool (whole v)) [
        | inl e ↦
            rw e
            (ap (λ (s : Split). record { pieces = replicate (t / v.ticks) v ++ s.pieces; left = s.left }) (divided_listed vs (t % v.ticks)))
        | inr e ↦ rw e (rw (div-zero, mod-zero) (divided_listed vs t))
      ]

  table_split : (t : ℕ) → 0 < p → coming (table_of p) 0 t ≡ split_span p t
  unfolding coming count table_of values flat_map whole listed
  table_split t h =
      divided_listed (flat_map (λ c. value p c 1 ∷ value p c 0 ∷ []) staff_codes) t ∙ sym (span_divided p h t)

-- Entries that do not fit may be left out.
coming_skip : (table : List ℕ) (t r : ℕ) → r ≤ 18 → ((i : ℕ) → i < r → (ltb 0 (get_or table i 0) && leb (get_or table i 0) t) ≡ false)
    → coming table r t ≡ coming table 0 t
coming_skip table t zero h over = refl
coming_skip table t (suc r) h over =
    ap (λ (i : ℕ). coming table i t) (sym (add-one r)) ∙ sym (coming_over table r t (omega arith) (over r (omega arith)))
    ∙ coming_skip table t r (omega arith) (λ i l. over i (omega arith))

-- A table of p: its split is section 6's, also from an entry on before which none fits.
module _ {table : List ℕ} (p t : ℕ) (is : table ≡ table_of p) where
  pub whole_split : 0 < p → coming table 0 t ≡ split_span p t
  whole_split h = rw is (table_split p t h)

  pub skipped : {r : ℕ} → Skips table t r → coming table r t ≡ coming table 0 t
  skipped {r} s = coming_skip table t r s.within (s.none_fits p is)

-- Of the pieces of t ticks n are counted, and the ticks left go to the entries from i on.
pub record Counted (table : List ℕ) (t n left i : ℕ) : Type 0 where
  pub few : n + left ≤ t
  pub is : (p : ℕ) → 0 < p → table ≡ table_of p → n + length (coming table i left).pieces ≡ length (split_span p t).pieces
  pub leaves : (p : ℕ) → 0 < p → table ≡ table_of p → (coming table i left).left ≡ (split_span p t).left

pub counted_start : {table : List ℕ} {t r : ℕ} → Skips table t r → Counted table t 0 t r
counted_start {table} {t} {r} s =
    record {
      few = omega arith;
      is = λ p h e. zero-add _ ∙ ap (λ (q : Split). length q.pieces) (skipped p t e s ∙ whole_split p t e h);
      leaves = λ p h e. ap (λ (q : Split). q.left) (skipped p t e s ∙ whole_split p t e h);
    }

pub division_few : (t l : ℕ) → 0 < l → t / l + t % l ≤ t
division_few t l h = omega (arith, div-add-mod' t l, le-mul_of_pos_right (t / l) h)

module _ {table : List ℕ} {t n left i : ℕ} (inside : i < 18) (c : Counted table t n left i) where
  -- entry i fits
  module _ (yes : (ltb 0 (get_or table i 0) && leb (get_or table i 0) left) ≡ true) where
    pub counted_long : 0 < get_or table i 0
    counted_long = (coming_fits table i left inside yes).0

    pub counted_more : Counted table t (n + left / get_or table i 0) (left % get_or table i 0) (i + 1)
    counted_more =
        record {
          few = omega (arith, c.few, division_few left (get_or table i 0) counted_long);
          is = λ p h e. omega (arith, c.is p h e, coming_count table i left inside);
          leaves = λ p h e. sym (coming_left table i left inside) ∙ c.leaves p h e;
        }

  pub counted_over : (ltb 0 (get_or table i 0) && leb (get_or table i 0) left) ≡ false → Counted table t n left (i + 1)
  counted_over over =
      record {
        few = c.few;
        is = λ p h e. rw (← coming_over table i left inside over) (c.is p h e);
        leaves = λ p h e. rw (← coming_over table i left inside over) (c.leaves p h e);
      }

-- the ticks left give no piece
pub counted_end : {table : List ℕ} {t n left i : ℕ} (p : ℕ) → coming table i left ≡ nothing left → Counted table t n left i → 0 < p
    → table ≡ table_of p → Counts p t (record { pieces = n; left = left })
counted_end p last c h e =
    record {
      pieces = omega (arith, c.is p h e, ap (λ (q : Split). length q.pieces) last);
      left = sym (ap (λ (q : Split). q.left) last) ∙ c.leaves p h e;
    }
