-- Section 6: a span's split, the longest value that fits again and again, is the split by division; it loses nothing, leaves nothing of
-- a multiple of the smallest value, and takes values of staffs alone.
use Prim.Native.Nat.{ℕ, zero, suc, ◌+◌, ◌-◌, ◌*◌, ◌/◌, ◌%◌, ◌≤◌, ◌<◌, ◌∣◌}
use mathlib.Core.List.{List, [], ◌∷◌, ◌++◌, map, map-append, head?}
use mathlib.Core.Logic.{inl, inr}
use mathlib.Core.Option.{Option, none, some}
use mathlib.Core.Path.{◌≡◌, refl, sym, ap, ◌∙◌}
use native.Mathlib.Nat.{le_refl, zero-div, zero-mod, div-eq_of_lt, mod-eq_of_lt, div-eq-sub-div, mod-eq-sub-mod, div-add-mod', mod-lt}
use native.Mathlib.Nat.{eq-zero-or-pos, dvd_refl, dvd_trans, dvd-sub, dvd-add, dvd-mod_iff, le_of_dvd, mod-eq-zero_of_dvd}
use native.Mathlib.Numerals.{add-one}
use native.Mathlib.Omega.{arith}
use lib.Dec.{leb}
use lib.ListN.{replicate}
use borrow.Author.Tests.{leb-true, leb-false}
use Rattle.rules.specs.Lists.{keep, All, sum}
use Rattle.rules.specs.Values.{Value, values, ticks_of, longest, Split, split_in, split_span, staff_codes, smallest}
use Rattle.laws.specs.Ladder.{ladder, split, left, taken, halved, StaffPiece}
use Rattle.laws.proofs.Order.{by_bool}
use Rattle.laws.proofs.Lists.{All-imp, All-keep, All-flat_map, first_kept, sum_append}
use Rattle.laws.proofs.Values.{by_even, ladder_even, ladder_odd, values_literal, values_long, halved_even}
use Rattle.laws.proofs.Values.{halved_zero, halved_odd, halved_divides, half_divides, smallest_last}

-- Loop equations: a value that fits is taken, one that does not is passed over.
module _ (v : Value) (vs : List Value) (t : ℕ) where
  pub split_fits : 0 < v.ticks → v.ticks ≤ t → split (v ∷ vs) t ≡ v ∷ split (v ∷ vs) (t - v.ticks)
  unfolding split
  split_fits h k = rw (div-eq-sub-div h k, mod-eq-sub-mod k, add-one)

  pub left_fits : v.ticks ≤ t → left (v ∷ vs) t ≡ left (v ∷ vs) (t - v.ticks)
  unfolding left
  left_fits k = rw (mod-eq-sub-mod k)

  pub split_over : t < v.ticks → split (v ∷ vs) t ≡ split vs t
  unfolding split
  split_over h = rw (div-eq_of_lt h, mod-eq_of_lt h)

  pub left_over : t < v.ticks → left (v ∷ vs) t ≡ left vs t
  unfolding left
  left_over h = rw (mod-eq_of_lt h)

pub split_zero : (vs : List Value) → split vs 0 ≡ []
unfolding split
split_zero [] = refl
split_zero (v ∷ vs) = rw (zero-div, zero-mod) (split_zero vs)

pub left_zero : (vs : List Value) → left vs 0 ≡ 0
unfolding left
left_zero [] = refl
left_zero (v ∷ vs) = rw zero-mod (left_zero vs)

-- a span by division, both parts; and by its first value that fits
abbrev pub divided : List Value → ℕ → Split
divided vs t = record { pieces = split vs t; left = left vs t }

abbrev first : List Value → ℕ → Option Value
first vs t = head? (keep (λ (v : Value). leb v.ticks t) vs)

abbrev ahead : List Value → ℕ → Option Value → Split
ahead vs t none = record { pieces = []; left = t }
ahead vs t (some v) = record { pieces = v ∷ split vs (t - v.ticks); left = left vs (t - v.ticks) }

pub divided_over : (v : Value) (vs : List Value) (t : ℕ) → t < v.ticks → divided (v ∷ vs) t ≡ divided vs t
divided_over v vs t h = λ i. record { pieces = split_over v vs t h i; left = left_over v vs t h i }

ahead_over : (v : Value) (vs : List Value) (t : ℕ) → t < v.ticks → (o : Option Value) → ahead vs t o ≡ ahead (v ∷ vs) t o
ahead_over v vs t h none = refl
ahead_over v vs t h (some w) =
    let k : t - w.ticks < v.ticks = omega arith in
    λ i. record { pieces = w ∷ sym (split_over v vs (t - w.ticks) k) i; left = sym (left_over v vs (t - w.ticks) k) i }

divided_first : (vs : List Value) (t : ℕ) → All (λ (v : Value). 0 < v.ticks) vs → divided vs t ≡ ahead vs t (first vs t)
unfolding keep
divided_first [] t h = unfold split left in refl
divided_first (v ∷ vs) t h =
    elim (by_bool (leb v.ticks t)) [
      | inl e ↦
          let k : v.ticks ≤ t = leb-true _ _ e in
          rw e (λ i. record { pieces = split_fits v vs t h.0 k i; left = left_fits v vs t k i })
      | inr e ↦
          let k : t < v.ticks = leb-false _ _ e in
          rw e (divided_over v vs t k ∙ divided_first vs t h.1 ∙ ahead_over v vs t k (first vs t))
    ]

-- The literal split, of t or more turns, is the one by division.
module _ (p : ℕ) (some_ticks : 0 < p) where
  first_long : (t : ℕ) (v : Value) → longest p t ≡ some v → 0 < v.ticks
  first_long t v e = first_kept (λ (w : Value). 0 < w.ticks) (λ (w : Value). leb w.ticks t) (values p) v (values_long p some_ticks) e

  split_in_divided : (n t : ℕ) → t ≤ n → split_in p n t ≡ divided (values p) t
  unfolding split_in
  split_in_divided zero t h =
      let z : t ≡ 0 = omega arith in
      rw z (λ i. record { pieces = sym (split_zero (values p)) i; left = sym (left_zero (values p)) i })
  split_in_divided (suc n) t h = go (split_in_divided n) (longest p t) refl ∙ sym (divided_first (values p) t (values_long p some_ticks))
    where
      go : ((u : ℕ) → u ≤ n → split_in p n u ≡ divided (values p) u) → (o : Option Value) → longest p t ≡ o
          → split_in p (suc n) t ≡ ahead (values p) t (longest p t)
      go more none e = rw (e, split_in)
      go more (some v) e =
          rw (e, split_in)
          (ap (λ (s : Split). record { pieces = v ∷ s.pieces; left = s.left }) (more (t - v.ticks) (omega (arith, first_long t v e))))

  pub span_divided : (t : ℕ) → split_span p t ≡ divided (values p) t
  span_divided t = split_in_divided t t (le_refl t)

left_literal : (p t : ℕ) → 0 < p → (split_span p t).left ≡ left (values p) t
left_literal p t h = ap (λ (s : Split). s.left) (span_divided p h t)

pub split_step : (p t : ℕ) → 0 < p → split_span p t ≡ taken p t (longest p t)
split_step p t h = span_divided p h t ∙ divided_first (values p) t (values_long p h) ∙ same (longest p t)
  where
    same : (o : Option Value) → ahead (values p) t o ≡ taken p t o
    same none = refl
    same (some v) = ap (λ (s : Split). record { pieces = v ∷ s.pieces; left = s.left }) (sym (span_divided p h (t - v.ticks)))

-- What is written and what is left are the span.
abbrev total : List Value → ℕ
total vs = sum (map (λ (v : Value). v.ticks) vs)

total_append : (xs ys : List Value) → total (xs ++ ys) ≡ total xs + total ys
total_append xs ys = rw map-append (sum_append _ _)

total_copies : (n : ℕ) (v : Value) → total (replicate n v) ≡ n * v.ticks
unfolding sum
total_copies zero v = omega arith
total_copies (suc n) v = omega (arith, total_copies n v)

divided_whole : (vs : List Value) (t : ℕ) → total (split vs t) + left vs t ≡ t
unfolding split left sum
divided_whole [] t = omega arith
divided_whole (v ∷ vs) t =
    let n : ℕ = t / v.ticks in
    let r : ℕ = t % v.ticks in
    omega (arith, total_append (replicate n v) (split vs r), total_copies n v, divided_whole vs r, div-add-mod' t v.ticks)

pub split_whole : (p t : ℕ) → 0 < p → sum (map (λ (v : Value). v.ticks) (split_span p t).pieces) + (split_span p t).left ≡ t
split_whole p t h = rw (span_divided p h t) (divided_whole (values p) t)

-- An even span leaves nothing. Where 32 divides p, the dotted code 8 is one and a half smallest values; what comes to it is less than
-- two of them and a multiple of one, so that it does not fit.
last_rung : (c l t : ℕ) → t < 2 * l → l ∣ t → left (ladder 1 c l) t ≡ 0
unfolding left ladder
last_rung c l t small d =
    elim (by_even l) [
      | inl e ↦ rw (ladder_even 0 c l e) (rw (mod-eq_of_lt (unfit e)) (mod-eq-zero_of_dvd l d))
      | inr o ↦ rw (ladder_odd 0 c l o) (mod-eq-zero_of_dvd l d)
    ]
  where
    unfit : l % 2 ≡ 0 → t < l + l / 2
    unfit e = elim (eq-zero-or-pos (t - l)) [ inl z ↦ omega arith | inr q ↦ omega (arith, le_of_dvd q (dvd-sub l d (dvd_refl l))) ]

rungs : (n c l t : ℕ) → 0 < l → (n ≡ 0 → t < 2 * l) → halved n l ∣ t → left (ladder (suc n) c l) t ≡ 0
unfolding left
rungs zero c l t long small d = last_rung c l t (small refl) (rw (halved_zero 0 l (omega arith)) at d)
rungs (suc n) c l t long small d =
    elim (by_even l) [
      | inl e ↦
          let s : ℕ = halved n (l / 2) in
          let h : s ∣ l / 2 = halved_divides n (l / 2) in
          let f : s ∣ l = dvd_trans s h (half_divides l e) in
          let m : s ∣ t % (l + l / 2) % l = (dvd-mod_iff s f).1 ((dvd-mod_iff s (dvd-add s f h)).1 (rw (halved_even n l e) at d)) in
          rw (ladder_even (suc n) c l e)
          (rungs n (suc c) (l / 2) (t % (l + l / 2) % l) (omega arith) (omega (arith, mod-lt (t % (l + l / 2)) long)) m)
      | inr o ↦ rw (ladder_odd (suc n) c l o) (mod-eq-zero_of_dvd l (rw (halved_odd (suc n) l o) at d))
    ]

pub split_even : (p t : ℕ) → 0 < p → smallest p ∣ t → (split_span p t).left ≡ 0
split_even p t h d = rw (left_literal p t h, values_literal) (rungs 8 0 (16 * p) t (omega arith) (omega arith) (rw smallest_last d))

pub split_total : (p t : ℕ) → 0 < p → smallest p ∣ t → sum (map (λ (v : Value). v.ticks) (split_span p t).pieces) ≡ t
split_total p t h d = omega (arith, split_whole p t h, split_even p t h d)

-- The values of a split are values of staffs.
pub values_staff : (p : ℕ) → All (StaffPiece p) (values p)
unfolding values
values_staff p =
    All-imp (λ v k. record { code = k.0.0; dots = k.0.1; whole = k.1; ticks = k.0.2 }) (values p)
    (All-keep Listed _ _ (All-flat_map Listed _ (λ c (h : c ≤ 8). ((h, omega arith, refl), ((h, omega arith, refl), tt))) staff_codes (omega arith)))
  where
    Listed : Value → Type 0
    Listed v = (v.code ≤ 8) × (v.dots ≤ 1) × (v.ticks ≡ ticks_of p v.code v.dots)

split_in_staff : (p n t : ℕ) → All (StaffPiece p) (split_in p n t).pieces
unfolding split_in
split_in_staff p zero t = tt
split_in_staff p (suc n) t = go (split_in_staff p n) (longest p t) refl
  where
    go : ((u : ℕ) → All (StaffPiece p) (split_in p n u).pieces) → (o : Option Value) → longest p t ≡ o
        → All (StaffPiece p) (split_in p (suc n) t).pieces
    go more none e = rw (e, split_in) tt
    go more (some v) e =
        rw (e, split_in)
        (first_kept (StaffPiece p) (λ (w : Value). leb w.ticks t) (values p) v (values_staff p) e, more (t - v.ticks))

pub split_staff : (p t : ℕ) → All (StaffPiece p) (split_span p t).pieces
split_staff p t = split_in_staff p t t
