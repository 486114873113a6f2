-- Section 6, Written values: lengths of codes and dots, the split of a span, the smallest value, beats.
use Rattle.std.specs.Prelude.{ℕ, zero, suc, ◌+◌, ◌-◌, ◌*◌, ◌/◌, ◌%◌, ◌^◌, Bool, cond, eqb, leb}
use mathlib.Core.List.{List, [], ◌∷◌, flat_map, head?}
use Rattle.std.proofs.Math.Option.{Option, none, some}
use Rattle.rules.specs.Lists.{keep}

-- Code 0 is the longa, 16 p ticks, and each code is half the one before. With d dots a value is 2 - 1/2^d times as long: in all
-- 16 p (2^(d+1) - 1) / 2^(c+d) ticks.
abbrev pub ticks_of : ℕ → ℕ → ℕ → ℕ
ticks_of p c d = 16 * p * (2 ^ (d + 1) - 1) / 2 ^ (c + d)

-- that length is a whole number of ticks
abbrev pub is_whole : ℕ → ℕ → ℕ → Bool
is_whole p c d = eqb (16 * p * (2 ^ (d + 1) - 1) % 2 ^ (c + d)) 0

pub record Value : Type 0 where
  pub code : ℕ
  pub dots : ℕ
  pub ticks : ℕ

abbrev pub value : ℕ → ℕ → ℕ → Value
value p c d = record { code = c; dots = d; ticks = ticks_of p c d }

-- The codes of staffs.
abbrev pub staff_codes : List ℕ
staff_codes = 0 ∷ 1 ∷ 2 ∷ 3 ∷ 4 ∷ 5 ∷ 6 ∷ 7 ∷ 8 ∷ []

-- Staffs use codes 0 to 8 with a dot or none, and only where the length is a whole number of ticks; longest first.
unfoldable pub values : ℕ → List Value
values p = keep (λ (v : Value). is_whole p v.code v.dots) (flat_map (λ c. value p c 1 ∷ value p c 0 ∷ []) staff_codes)

-- the longest value that fits a span
abbrev pub longest : ℕ → ℕ → Option Value
longest p t = head? (keep (λ (v : Value). leb v.ticks t) (values p))

-- A span's written values, and the ticks that are dropped.
pub record Split : Type 0 where
  pub pieces : List Value
  pub left : ℕ

-- A span takes the longest that fits, repeatedly: at most n times.
unfoldable pub split_in : ℕ → ℕ → ℕ → Split
split_in p zero t = record { pieces = []; left = t }
split_in p (suc n) t =
    elim (longest p t) [
      | none ↦ record { pieces = []; left = t }
      | some v ↦ record { pieces = v ∷ (split_in p n (t - v.ticks)).pieces; left = (split_in p n (t - v.ticks)).left }
    ]

-- Each value has a tick or more, so t times are enough.
abbrev pub split_span : ℕ → ℕ → Split
split_span p t = split_in p t t

-- how often 2 divides n, counted up to k
unfoldable pub twos : ℕ → ℕ → ℕ
twos zero n = zero
twos (suc k) n = cond (eqb (n % 2) 0) (suc (twos k (n / 2))) zero

-- The smallest written value: p / 2^m, m the smaller of 4 and the twos in p.
abbrev pub smallest : ℕ → ℕ
smallest p = p / 2 ^ twos 4 p

-- The largest code and number of dots that `beats` takes.
abbrev pub largest_code : ℕ
largest_code = 9

abbrev pub most_dots : ℕ
most_dots = 3

-- A value's length in quarters, as a number of 256ths: a quarter of 256 ticks.
abbrev pub beats256 : ℕ → ℕ → ℕ
beats256 c d = ticks_of 256 c d

-- duration.rs also gives a value's ticks at 480 per quarter: each dot adds half, whole part, of what was added before it.
unfoldable pub dotted : ℕ → ℕ → ℕ
dotted zero base = base
dotted (suc d) base = base + dotted d (base / 2)

abbrev pub ticks480 : ℕ → ℕ → ℕ
ticks480 c d = dotted d (ticks_of 480 c 0)
