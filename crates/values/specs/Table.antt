-- What the contracts of `values` cite: the table of lengths, and a span that is written to an array.
use Rattle.std.specs.Prelude.{ℕ, ◌+◌, ◌-◌, ◌*◌, ◌/◌, ◌%◌, ◌<◌, ◌≤◌, false, cond, ◌&&◌, ◌≡◌, ltb, leb, length, get_or, take, drop}
use mathlib.Core.List.{List, [], ◌∷◌, ◌++◌, map, flat_map}
use Rattle.rules.specs.Values.{Value, ticks_of, is_whole, staff_codes, split_span}
use Rattle.values.specs.declared.Count.{Count}
use Rattle.values.specs.declared.Split.{Split}

-- the ticks of code c with d dots; 0 where they are no whole number
abbrev pub entry_of : ℕ → ℕ → ℕ → ℕ
entry_of p c d = cond (is_whole p c d) (ticks_of p c d) 0

-- The values of staffs as eighteen lengths, longest first: entry 2 c is code c with a dot, entry 2 c + 1 code c without.
unfoldable pub table_of : ℕ → List ℕ
table_of p = flat_map (λ c. entry_of p c 1 ∷ entry_of p c 0 ∷ []) staff_codes

-- Entry i of a table as a value.
abbrev pub entry : List ℕ → ℕ → Value
entry table i = record { code = i / 2; dots = 1 - i % 2; ticks = get_or table i 0 }

-- A piece's code and dot as section 7's head has them, with the caller's bits.
abbrev pub piece_word : ℕ → Value → ℕ
piece_word bits v = v.code + v.dots * 16 + bits

-- a span's pieces as words, longest first
abbrev pub span_words : ℕ → ℕ → ℕ → List ℕ
span_words p t bits = map (piece_word bits) (split_span p t).pieces

-- Where the table is that of a division, no entry before r is a value that fits t ticks.
pub record Skips (table : List ℕ) (t r : ℕ) : Type 0 where
  pub within : r ≤ 18
  pub none_fits : (p : ℕ) → table ≡ table_of p → (i : ℕ) → i < r → (ltb 0 (get_or table i 0) && leb (get_or table i 0) t) ≡ false

-- The table is that of a division p, and the pieces of t ticks have room behind `from` in an array of a size.
pub record Room (table : List ℕ) (t from size : ℕ) : Type 0 where
  pub p : ℕ
  pub some_ticks : 0 < p
  pub is : table ≡ table_of p
  pub room : from + length (split_span p t).pieces ≤ size

-- what t ticks take, and leave
pub record Counts (p t : ℕ) (r : Count) : Type 0 where
  pub pieces : r.pieces ≡ length (split_span p t).pieces
  pub left : r.left ≡ (split_span p t).left

-- The pieces of t ticks stand in the array from `from` up to the place that is answered; all else in it is kept. What they leave is answered too.
pub record Spanned (p t from bits : ℕ) (out₀ out : List ℕ) (r : Split) : Type 0 where
  pub next : r.at ≡ from + length (split_span p t).pieces
  pub is : out ≡ take from out₀ ++ span_words p t bits ++ drop r.at out₀
  pub left : r.left ≡ (split_span p t).left
