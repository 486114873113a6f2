-- Section 6: the written values are a ladder of halvings, they fall, and the smallest value is p halved while it is even, at most 4 times.
use Prim.Native.Nat.{ℕ, zero, suc, ◌+◌, ◌-◌, ◌*◌, ◌/◌, ◌%◌, ◌^◌, ◌≤◌, ◌<◌, ◌∣◌}
use mathlib.Core.Bool.{true, false}
use mathlib.Core.List.{List, [], ◌∷◌, flat_map}
use mathlib.Core.Logic.{◌⊎◌, inl, inr}
use mathlib.Core.Path.{◌≡◌, refl, sym, ap, ◌∙◌, subst}
use native.Mathlib.Nat.{add-zero, pow-succ', div-one, div-div-eq-div-mul, div-eq_of_eq-mul_left, mul-mod_left, mul-mod_right, dvd_refl}
use native.Mathlib.Nat.{dvd_trans, dvd-mul_right, dvd_of_mod-eq-zero, mod-eq-zero_of_dvd, dvd_of_mul-dvd-mul_right, pos_of_dvd_of_pos}
use native.Mathlib.Numerals.{add-one}
use native.Mathlib.Omega.{arith}
use lib.Pow.{pow_pos, pow-add}
use borrow.Author.Tests.{eq-eqb, ne_eqb}
use Rattle.rules.specs.Lists.{keep, All}
use Rattle.rules.specs.Values.{Value, value, values, is_whole, twos, smallest}
use Rattle.laws.specs.Ladder.{plain, with_dot, ladder, ladder_of, Falls, halved}
use Rattle.laws.specs.Sort.{count}
use Rattle.laws.proofs.Order.{by_eq}

-- cases on l being even
pub by_even : (l : ℕ) → (l % 2 ≡ 0) ⊎ (l % 2 ≡ 0 → ⊥)
by_even l = by_eq (l % 2) 0

-- One rung of the ladder.
module _ (n c l : ℕ) where
  pub ladder_even : l % 2 ≡ 0 → ladder (suc n) c l ≡ with_dot c l ∷ plain c l ∷ ladder n (suc c) (l / 2)
  unfolding ladder
  ladder_even e = rw (eq-eqb _ _ e)

  pub ladder_odd : (l % 2 ≡ 0 → ⊥) → ladder (suc n) c l ≡ plain c l ∷ []
  unfolding ladder
  ladder_odd e = rw (ne_eqb _ _ e)

-- The same as a loop counts: n codes to come, from code c on.
pub ladder_step : (n c l : ℕ) → 0 < n → l % 2 ≡ 0 → ladder n c l ≡ with_dot c l ∷ plain c l ∷ ladder (n - 1) (c + 1) (l / 2)
ladder_step zero c l h e = absurd (omega arith)
ladder_step (suc n) c l h e = let i : suc n - 1 ≡ n = omega arith in rw (i, add-one) (ladder_even n c l e)

pub ladder_stop : (n c l : ℕ) → 0 < n → (l % 2 ≡ 0 → ⊥) → ladder n c l ≡ plain c l ∷ []
ladder_stop zero c l h o = absurd (omega arith)
ladder_stop (suc n) c l h o = ladder_odd n c l o

pub ladder_none : (n c l : ℕ) → n ≤ 0 → ladder n c l ≡ []
unfolding ladder
ladder_none zero c l h = refl
ladder_none (suc n) c l h = absurd (omega arith)

-- the values of n codes from c on, as the rules list them
listed : ℕ → ℕ → ℕ → List Value
listed p n c = keep (λ (v : Value). is_whole p v.code v.dots) (flat_map (λ d. value p d 1 ∷ value p d 0 ∷ []) (count c n))

-- an odd multiple of a power of 2 is no multiple of a higher one
odd_part : (m c k : ℕ) → c < k → (m % 2 ≡ 0 → ⊥) → m * 2 ^ c % 2 ^ k ≡ 0 → ⊥
odd_part m c k h o e =
    let i : k ≡ suc c + (k - suc c) = omega arith in
    let d : 2 ^ suc c ∣ 2 ^ k = subst (λ (n : ℕ). 2 ^ suc c ∣ 2 ^ n) (sym i) (rw pow-add (dvd-mul_right (2 ^ suc c) (2 ^ (k - suc c)))) in
    let f : 2 ^ suc c ∣ m * 2 ^ c = dvd_trans _ d (dvd_of_mod-eq-zero _ e) in
    o (mod-eq-zero_of_dvd 2 (dvd_of_mul-dvd-mul_right 2 (pow_pos c) (rw pow-succ' at f)))

-- Code c is l ticks long: what the rules' list has at c, and, where l is odd, past it.
module _ (p c l : ℕ) (long : 16 * p ≡ l * 2 ^ c) where
  plain_ticks : 16 * p * 1 ≡ l * 2 ^ (c + 0)
  plain_ticks = rw add-zero (omega arith)

  plain_value : value p c 0 ≡ plain c l
  plain_value = λ i. record { code = c; dots = 0; ticks = div-eq_of_eq-mul_left (pow_pos (c + 0)) plain_ticks i }

  whole_plain : is_whole p c 0 ≡ true
  whole_plain = rw plain_ticks (eq-eqb _ _ (mul-mod_left l (2 ^ (c + 0))))

  module _ (even : l % 2 ≡ 0) where
    half_ticks : 16 * p ≡ l / 2 * 2 ^ suc c
    half_ticks = let h : l ≡ 2 * (l / 2) = omega arith in rw pow-succ' (omega (arith, ap (λ (n : ℕ). n * 2 ^ c) h))

    dotted_ticks : 16 * p * 3 ≡ (l + l / 2) * 2 ^ (c + 1)
    dotted_ticks = rw (add-one, pow-succ') (omega (arith, rw pow-succ' at half_ticks))

    dotted_value : value p c 1 ≡ with_dot c l
    dotted_value = λ i. record { code = c; dots = 1; ticks = div-eq_of_eq-mul_left (pow_pos (c + 1)) dotted_ticks i }

    whole_dotted : is_whole p c 1 ≡ true
    whole_dotted = rw dotted_ticks (eq-eqb _ _ (mul-mod_left (l + l / 2) (2 ^ (c + 1))))

  module _ (odd : l % 2 ≡ 0 → ⊥) where
    odd_three : l * 3 % 2 ≡ 0 → ⊥
    odd_three e = odd (let q : l ≡ 2 * (l * 3 / 2 - l) = omega arith in rw q (mul-mod_right 2 _))

    part_dotted : (k : ℕ) → c ≤ k → is_whole p k 1 ≡ false
    part_dotted k h =
        let q : 16 * p * 3 ≡ l * 3 * 2 ^ c = omega arith in
        rw q (ne_eqb _ _ (odd_part (l * 3) c (k + 1) (omega arith) odd_three))

    part_plain : (k : ℕ) → c < k → is_whole p k 0 ≡ false
    part_plain k h =
        let q : 16 * p * 1 ≡ l * 2 ^ c = omega arith in
        rw q (ne_eqb _ _ (odd_part l c (k + 0) (omega arith) odd))

    listed_none : (n k : ℕ) → c < k → listed p n k ≡ []
    unfolding listed count flat_map keep
    listed_none zero k h = refl
    listed_none (suc n) k h =
        let i : c ≤ k = omega arith in rw (part_dotted k i, part_plain k h) (listed_none n (suc k) (omega arith))

listed_ladder : (p n c l : ℕ) → 16 * p ≡ l * 2 ^ c → listed p n c ≡ ladder n c l
unfolding listed count flat_map keep ladder
listed_ladder p zero c l long = refl
listed_ladder p (suc n) c l long =
    elim (by_even l) [
      | inl e ↦
          rw (ladder_even n c l e, whole_dotted p c l long e, whole_plain p c l long, dotted_value p c l long e, plain_value p c l long)
          (ap (λ (vs : List Value). with_dot c l ∷ plain c l ∷ vs) (listed_ladder p n (suc c) (l / 2) (half_ticks p c l long e)))
      | inr o ↦
          rw (ladder_odd n c l o, part_dotted p c l long o c (omega arith), whole_plain p c l long)
          (λ i. plain_value p c l long i ∷ listed_none p c l long o n (suc c) (omega arith) i)
    ]

pub values_literal : (p : ℕ) → values p ≡ ladder_of p
unfolding values listed count
values_literal p = listed_ladder p 9 0 (16 * p) (omega arith)

-- The values fall, and each has ticks.
ladder_below : (n c l b : ℕ) → l + l / 2 < b → All (λ (v : Value). v.ticks < b) (ladder n c l)
unfolding ladder
ladder_below zero c l b h = tt
ladder_below (suc n) c l b h =
    elim (by_even l) [
      | inl e ↦ rw (ladder_even n c l e) (h, (omega arith, ladder_below n (suc c) (l / 2) b (omega arith)))
      | inr o ↦ rw (ladder_odd n c l o) (omega arith, tt)
    ]

ladder_falls : (n c l : ℕ) → 0 < l → Falls (ladder n c l)
unfolding ladder
ladder_falls zero c l h = tt
ladder_falls (suc n) c l h =
    elim (by_even l) [
      | inl e ↦
          rw (ladder_even n c l e) (
            (omega arith, ladder_below n (suc c) (l / 2) (l + l / 2) (omega arith)),
            (ladder_below n (suc c) (l / 2) l (omega arith), ladder_falls n (suc c) (l / 2) (omega arith)),
          )
      | inr o ↦ rw (ladder_odd n c l o) (tt, tt)
    ]

ladder_long : (n c l : ℕ) → 0 < l → All (λ (v : Value). 0 < v.ticks) (ladder n c l)
unfolding ladder
ladder_long zero c l h = tt
ladder_long (suc n) c l h =
    elim (by_even l) [
      | inl e ↦ rw (ladder_even n c l e) (omega arith, (h, ladder_long n (suc c) (l / 2) (omega arith)))
      | inr o ↦ rw (ladder_odd n c l o) (h, tt)
    ]

pub values_longest_first : (p : ℕ) → 0 < p → Falls (values p)
values_longest_first p h = rw values_literal (ladder_falls 9 0 (16 * p) (omega arith))

pub values_long : (p : ℕ) → 0 < p → All (λ (v : Value). 0 < v.ticks) (values p)
values_long p h = rw values_literal (ladder_long 9 0 (16 * p) (omega arith))

-- Loop equations of `halved`.
pub halved_even : (n l : ℕ) → l % 2 ≡ 0 → halved (suc n) l ≡ halved n (l / 2)
unfolding halved
halved_even n l e = rw (eq-eqb _ _ e)

pub halved_step : (n l : ℕ) → 0 < n → l % 2 ≡ 0 → halved n l ≡ halved (n - 1) (l / 2)
halved_step zero l h e = absurd (omega arith)
halved_step (suc n) l h e = let i : suc n - 1 ≡ n = omega arith in rw i (halved_even n l e)

pub halved_zero : (n l : ℕ) → n ≤ 0 → halved n l ≡ l
unfolding halved
halved_zero zero l h = refl
halved_zero (suc n) l h = absurd (omega arith)

pub halved_odd : (n l : ℕ) → (l % 2 ≡ 0 → ⊥) → halved n l ≡ l
unfolding halved
halved_odd zero l h = refl
halved_odd (suc n) l h = rw (ne_eqb _ _ h)

pub half_divides : (l : ℕ) → l % 2 ≡ 0 → l / 2 ∣ l
half_divides l e = let h : l / 2 * 2 ≡ l = omega arith in subst (λ (n : ℕ). l / 2 ∣ n) h (dvd-mul_right (l / 2) 2)

pub halved_divides : (n l : ℕ) → halved n l ∣ l
unfolding halved
halved_divides zero l = dvd_refl l
halved_divides (suc n) l =
    elim (by_even l) [
      | inl e ↦ rw (eq-eqb _ _ e) (dvd_trans _ (halved_divides n (l / 2)) (half_divides l e))
      | inr o ↦ rw (ne_eqb _ _ o) (dvd_refl l)
    ]

-- to divide by 2 as often as `twos` counts is to halve
twos_halved : (n l : ℕ) → l / 2 ^ twos n l ≡ halved n l
unfolding halved twos
twos_halved zero l = div-one l
twos_halved (suc n) l =
    elim (by_even l) [
      | inl e ↦ rw (eq-eqb _ _ e, pow-succ') (sym (div-div-eq-div-mul l 2 (2 ^ twos n (l / 2))) ∙ twos_halved n (l / 2))
      | inr o ↦ rw (ne_eqb _ _ o) (div-one l)
    ]

pub smallest_halved : (p : ℕ) → smallest p ≡ halved 4 p
smallest_halved p = twos_halved 4 p

-- The ladder's last rung is the smallest value.
halved_double : (n l : ℕ) → halved (suc n) (2 * l) ≡ halved n l
halved_double n l =
    let e : 2 * l % 2 ≡ 0 = omega arith in
    let q : 2 * l / 2 ≡ l = omega arith in
    halved_even n (2 * l) e ∙ ap (halved n) q

pub smallest_last : (p : ℕ) → halved 8 (16 * p) ≡ smallest p
smallest_last p =
    let q : 16 * p ≡ 2 * (2 * (2 * (2 * p))) = omega arith in
    ap (halved 8) q ∙ halved_double 7 _ ∙ halved_double 6 _ ∙ halved_double 5 _ ∙ halved_double 4 p ∙ sym (smallest_halved p)

pub smallest_divides : (p : ℕ) → smallest p ∣ p
smallest_divides p = rw twos_halved (halved_divides 4 p)

pub smallest_long : (p : ℕ) → 0 < p → 0 < smallest p
smallest_long p h = pos_of_dvd_of_pos (smallest_divides p) h
