-- Keys in two words, and the five words of a chord: what a store of them changes, and what it leaves.
use Prim.Native.Nat.{ℕ, ◌+◌, ◌-◌, ◌*◌, ◌/◌, ◌%◌, ◌^◌, ◌≤◌, ◌<◌}
use mathlib.Core.Bool.{Bool}
use mathlib.Core.List.{List}
use mathlib.Core.Logic.{inl, inr}
use mathlib.Core.Path.{◌≡◌, ap, subst}
use native.Mathlib.Nat.{one-mul, suc-mul, mod-eq_of_lt, mul-le-mul_right}
use native.Mathlib.Omega.{arith}
use lib.Dec.{eqb}
use lib.ListN.{length, get_or, set, length-set}
use lib.Pow.{pow-lt, pow-add, high, low}
use lib.Seq.{get_or-set_same, get_or-set_other}
use Rattle.rules.specs.Voices.{Chord}
use Rattle.laws.proofs.Order.{by_lt}
use Rattle.chords.specs.Columns.{chord_at, keys_of}
use Rattle.chords.specs.Steps.{Stored}
use Rattle.chords.specs.declared.Keys.{Keys}

-- ---- keys
pub low_key : (k : ℕ) → k < 64 → 0 * 2 ^ 64 + 1 * 2 ^ k % 2 ^ 64 ≡ 2 ^ k
low_key k h = rw (one-mul, mod-eq_of_lt (pow-lt {j = 64} h)) (omega arith)

pub high_key : (k : ℕ) → 64 ≤ k → k < 128 → (1 * 2 ^ (k - 64) % 2 ^ 64) * 2 ^ 64 + 0 ≡ 2 ^ k
high_key k l h =
    let e : k ≡ (k - 64) + 64 = omega arith in
    rw (one-mul, mod-eq_of_lt (pow-lt {i = k - 64} {j = 64} (omega arith))) (omega (arith, pow-add 2 (k - 64) 64, ap (λ (j : ℕ). 2 ^ j) e))

-- ---- places of columns

-- a word stands in one column, at one place
pub same_cell : (n a i b j : ℕ) → i < n → j < n → a * n + i ≡ b * n + j → (a ≡ b) × (i ≡ j)
same_cell n a i b j h k e =
    elim (by_lt a b) [
      | inl l ↦ absurd (omega (arith, suc-mul a n, mul-le-mul_right n l))
      | inr l ↦
          elim (by_lt b a) [
            | inl o ↦ absurd (omega (arith, suc-mul b n, mul-le-mul_right n o))
            | inr o ↦ let q : a ≡ b = omega arith in (q, omega (arith, ap (λ (c : ℕ). c * n) q))
          ]
    ]

-- ---- chords
pub chord_is : {c d : Chord} → c.start ≡ d.start → c.end ≡ d.end → c.keys ≡ d.keys → c.unpitched ≡ d.unpitched → c ≡ d
chord_is s e k u = λ i. record { start = s i; end = e i; keys = k i; unpitched = u i }

-- two areas with the same five words have the same chord
pub chord_same : (n i : ℕ) (w w' : List ℕ) → ((a : ℕ) → 5 ≤ a → a ≤ 9 → get_or w' (a * n + i) 0 ≡ get_or w (a * n + i) 0)
    → chord_at n w' i ≡ chord_at n w i
chord_same n i w w' h =
    rw (
      h 5 (omega arith) (omega arith),
      h 6 (omega arith) (omega arith),
      h 7 (omega arith) (omega arith),
      h 8 (omega arith) (omega arith),
      h 9 (omega arith) (omega arith),
    )

module _ (n i : ℕ) (w : List ℕ) (s e l h u : ℕ) where
  -- the area with the five words of a chord put in
  abbrev pub five : List ℕ
  five = set (set (set (set (set w (5 * n + i) s) (6 * n + i) e) (7 * n + i) l) (8 * n + i) h) (9 * n + i) u

  -- j is none of their places
  Off : ℕ → Type 0
  Off j = (a : ℕ) → 5 ≤ a → a ≤ 9 → j ≡ a * n + i → ⊥

  five_off : (j : ℕ) → Off j → get_or five j 0 ≡ get_or w j 0
  unfolding Off
  five_off j o =
      let o5 = o 5 (omega arith) (omega arith) in
      let o6 = o 6 (omega arith) (omega arith) in
      let o7 = o 7 (omega arith) (omega arith) in
      let o8 = o 8 (omega arith) (omega arith) in
      let o9 = o 9 (omega arith) (omega arith) in
      rw (get_or-set_other, get_or-set_other, get_or-set_other, get_or-set_other, get_or-set_other)

  pub five_stored : (b : Bool) → 16 * n ≤ length w → i < n → eqb u 1 ≡ b
      → Stored n i (record { start = s; end = e; keys = h * 2 ^ 64 + l; unpitched = b }) w five
  unfolding Off
  five_stored b a o q =
      record {
        kept = simp length-set;
        here = chord_is start end (rw (high, low)) (rw mark q);
        there = λ j m d. chord_same n j w five (λ a x y. five_off (a * n + j) (λ b x y p. d (same_cell n a j b i m o p).1));
        front = λ j _ m. five_off j (λ b x y p. omega (arith, mul-le-mul_right n x));
        back = λ j m. five_off j (λ b x y p. omega (arith, mul-le-mul_right n y));
      }
    where
      apart : (a b : ℕ) → (a ≡ b → ⊥) → a * n + i ≡ b * n + i → ⊥
      apart a b d p = d (same_cell n a i b i o o p).0

      start : get_or five (5 * n + i) 0 ≡ s
      start =
          let p = apart 5 6 (λ z. omega arith) in
          let q = apart 5 7 (λ z. omega arith) in
          let r = apart 5 8 (λ z. omega arith) in
          let t = apart 5 9 (λ z. omega arith) in
          let m : 5 * n + i < length w = omega arith in
          rw (get_or-set_other, get_or-set_other, get_or-set_other, get_or-set_other, get_or-set_same)

      end : get_or five (6 * n + i) 0 ≡ e
      end =
          let q = apart 6 7 (λ z. omega arith) in
          let r = apart 6 8 (λ z. omega arith) in
          let t = apart 6 9 (λ z. omega arith) in
          let m : 6 * n + i < length (set w (5 * n + i) s) = simp length-set (omega arith) in
          rw (get_or-set_other, get_or-set_other, get_or-set_other, get_or-set_same)

      low : get_or five (7 * n + i) 0 ≡ l
      low =
          let r = apart 7 8 (λ z. omega arith) in
          let t = apart 7 9 (λ z. omega arith) in
          let m : 7 * n + i < length (set (set w (5 * n + i) s) (6 * n + i) e) = simp length-set (omega arith) in
          rw (get_or-set_other, get_or-set_other, get_or-set_same)

      high : get_or five (8 * n + i) 0 ≡ h
      high =
          let t = apart 8 9 (λ z. omega arith) in
          let m : 8 * n + i < length (set (set (set w (5 * n + i) s) (6 * n + i) e) (7 * n + i) l) = simp length-set (omega arith) in
          rw (get_or-set_other, get_or-set_same)

      mark : get_or five (9 * n + i) 0 ≡ u
      mark =
          let m : 9 * n + i < length (set (set (set (set w (5 * n + i) s) (6 * n + i) e) (7 * n + i) l) (8 * n + i) h) = simp length-set (omega arith) in
          rw get_or-set_same

-- what is stored is made of d, which is the chord at place i
pub stored_as : (f : Chord → Chord) (d : Chord) {n i : ℕ} {w w' : List ℕ} → d ≡ chord_at n w i → Stored n i (f d) w w'
    → Stored n i (f (chord_at n w i)) w w'
stored_as f d {n} {i} {w} {w'} e p = subst (λ (c : Chord). Stored n i (f c) w w') e p

-- the two words of a chord's keys
pub keys_low : (k : Keys) → k.low < 2 ^ 64 → keys_of k % 2 ^ 64 ≡ k.low
keys_low k h = low k.high 64 h

pub keys_high : (k : Keys) → k.low < 2 ^ 64 → keys_of k / 2 ^ 64 ≡ k.high
keys_high k h = high k.high 64 h
