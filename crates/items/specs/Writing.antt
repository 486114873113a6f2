-- What the functions that write items ask and promise. Where w is false they count the items and write none.
use Rattle.std.specs.Prelude.{ℕ, ◌+◌, ◌-◌, ◌*◌, ◌<◌, ◌≤◌, ◌^◌, min, max, Bool, true, cond, ◌&&◌, ◌≡◌, ltb, length, get_or, set, replicate}
use mathlib.Core.List.{List, [], ◌∷◌, map, flat_map, flatten}
use Rattle.rules.specs.Values.{split_span}
use Rattle.rules.specs.Items.{Item, head_of, low_keys, high_keys}
use Rattle.rules.specs.Voices.{Chord}
use Rattle.values.specs.Table.{table_of, span_words}
use Rattle.values.specs.declared.Split.{Split}
use Rattle.items.specs.declared.Measure.{Measure}
use Rattle.items.specs.Putting.{Put}

-- The division that a table of values is for: its entry for the quarter.
abbrev pub quarter : List ℕ → ℕ
quarter table = get_or table 9 0

pub record IsTable (table : List ℕ) : Type 0 where
  pub some_ticks : 0 < quarter table
  pub is : table ≡ table_of (quarter table)

-- the outputs have room for m items from a place on, where they are written; and they can be counted
pub record Room (w : Bool) (m from : ℕ) (heads keys : List ℕ) : Type 0 where
  pub heads_fit : w ≡ true → from + m ≤ length heads
  pub keys_fit : w ≡ true → 2 * (from + m) ≤ length keys
  pub small : from + m < 2 ^ 60

-- ---- items

abbrev pub key_words : Item → List ℕ
key_words i = low_keys i ∷ high_keys i ∷ []

-- the items stand in the outputs from a place on, and r is the place behind them
pub record Items (w : Bool) (is : List Item) (from : ℕ) (heads₀ keys₀ heads₁ keys₁ : List ℕ) (r : ℕ) : Type 0 where
  pub next : r ≡ from + length is
  pub heads : Put w (map head_of is) from heads₀ heads₁
  pub keys : Put w (flat_map key_words is) (2 * from) keys₀ keys₁

-- the items stand in the outputs, and k ticks more are left than were before
pub record Pushed (w : Bool) (is : List Item) (k : ℕ) (from : Split) (heads₀ keys₀ heads₁ keys₁ : List ℕ) (r : Split) : Type 0 where
  pub items : Items w is from.at heads₀ keys₀ heads₁ keys₁ r.at
  pub left : r.left ≡ from.left + k

-- a place, and no ticks left so far
abbrev pub start_at : ℕ → Split
start_at at = record { at = at; left = 0 }

-- ---- spans

-- the two words of m items of the same keys
abbrev pub pairs : ℕ → ℕ → ℕ → List ℕ
pairs low high m = flatten (replicate m (low ∷ high ∷ []))

-- how many items a span takes
abbrev pub span_items : ℕ → ℕ → ℕ
span_items p t = length (split_span p t).pieces

-- the values of t ticks stand in the outputs, all with the same bits and keys
pub record SpanPut (w : Bool) (p t bits low high : ℕ) (from : Split) (heads₀ keys₀ heads₁ keys₁ : List ℕ) (r : Split) : Type 0 where
  pub next : r.at ≡ from.at + span_items p t
  pub heads : Put w (span_words p t bits) from.at heads₀ heads₁
  pub keys : Put w (pairs low high (span_items p t)) (2 * from.at) keys₀ keys₁
  pub left : r.left ≡ from.left + (split_span p t).left

-- ---- ties

-- the word at place i without a bit, unless it is tied
abbrev pub untied : ℕ → ℕ → Bool → List ℕ → List ℕ
untied bit i tied l = cond tied l (set l i (get_or l i 0 - bit))

-- the words from a place up to another, all tied on both sides: the first is not tied in and the last not out, unless the flags say so
abbrev pub freed : Bool → ℕ → ℕ → Bool → Bool → List ℕ → List ℕ
freed w from to is_in is_out l = cond (w && ltb from to) (untied 64 (to - 1) is_out (untied 32 from is_in l)) l

-- the words at the two ends have both ties, where there are any
pub record BothTied (some : Bool) (from to : ℕ) (l : List ℕ) : Type 0 where
  pub order : some ≡ true → from < to
  pub inside : some ≡ true → to ≤ length l
  pub first : some ≡ true → 96 ≤ get_or l from 0
  pub last : some ≡ true → 96 ≤ get_or l (to - 1) 0

-- the chord sounds in the bar
pub record Sounding (bar : Measure) (c : Chord) : Type 0 where
  pub some_bar : bar.start < bar.end
  pub long : c.start < c.end
  pub early : c.start < bar.end
  pub late : bar.start < c.end

-- how long it sounds there
abbrev pub chord_ticks : Measure → Chord → ℕ
chord_ticks bar c = min bar.end c.end - max bar.start c.start
