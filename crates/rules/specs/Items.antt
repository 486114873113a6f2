-- Section 7, the output: items, and a staff's three arrays. The engraver writes them and the proof-reader reads them.
use Rattle.std.specs.Prelude.{ℕ, ◌+◌, ◌*◌, ◌/◌, ◌%◌, ◌^◌, Bool, eqb, length, take, drop}
use mathlib.Core.List.{List, [], ◌∷◌, map, flat_map, flatten}
use Rattle.rules.specs.Lists.{bit, flag}

-- A written item: a rest, or a piece of a chord with its keys as bits (bit k for key k).
pub record Item : Type 0 where
  pub code : ℕ
  pub dots : ℕ
  pub tie_in : Bool
  pub tie_out : Bool
  pub unpitched : Bool
  pub rest : Bool
  pub keys : ℕ

-- A head: bits 0 to 3 code, 4 dot, 5 tie-in, 6 tie-out, 7 unpitched, 8 rest.
abbrev pub head_of : Item → ℕ
head_of i =
    i.code + i.dots * 16 + flag i.tie_in * 32 + flag i.tie_out * 64 + flag i.unpitched * 128 + flag i.rest * 256

-- Bits 9 and above have no meaning.
abbrev pub head_limit : ℕ
head_limit = 512

-- Two words of keys: bit k of the first for key k, of the second for key 64 + k.
abbrev pub low_keys : Item → ℕ
low_keys i = i.keys % 2 ^ 64

abbrev pub high_keys : Item → ℕ
high_keys i = i.keys / 2 ^ 64

-- the item of a head and two words
abbrev pub item_of : ℕ → ℕ → ℕ → Item
item_of h low high =
    record {
      code = h % 16;
      dots = bit 4 h;
      tie_in = eqb (bit 5 h) 1;
      tie_out = eqb (bit 6 h) 1;
      unpitched = eqb (bit 7 h) 1;
      rest = eqb (bit 8 h) 1;
      keys = low + high * 2 ^ 64;
    }

-- A staff: bars of four voices of items.
abbrev pub Staff : Type 0
Staff = List (List (List Item))

-- Its three arrays: four item counts a bar; then, bar by bar and voice by voice, a head and two words an item.
pub record StaffArrays : Type 0 where
  pub counts : List ℕ
  pub heads : List ℕ
  pub keys : List ℕ

abbrev pub items_of : Staff → List Item
items_of st = flatten (flatten st)

abbrev pub arrays_of : Staff → StaffArrays
arrays_of st =
    record {
      counts = map length (flatten st);
      heads = map head_of (items_of st);
      keys = flat_map (λ i. low_keys i ∷ high_keys i ∷ []) (items_of st);
    }

-- ---- reading the arrays back

-- heads, each with its two words
unfoldable pub read_items : List ℕ → List ℕ → List Item
read_items [] ks = []
read_items (h ∷ hs) [] = []
read_items (h ∷ hs) (k ∷ []) = []
read_items (h ∷ hs) (low ∷ high ∷ ks) = item_of h low high ∷ read_items hs ks

-- a list cut by counts
unfoldable pub cut_by : {A : Type 0} → List ℕ → List A → List (List A)
cut_by [] xs = []
cut_by (n ∷ ns) xs = take n xs ∷ cut_by ns (drop n xs)

-- voices by fours
unfoldable pub by_fours : {A : Type 0} → List A → List (List A)
by_fours (a ∷ b ∷ c ∷ d ∷ xs) = (a ∷ b ∷ c ∷ d ∷ []) ∷ by_fours xs
by_fours [] = []
by_fours (a ∷ []) = []
by_fours (a ∷ b ∷ []) = []
by_fours (a ∷ b ∷ c ∷ []) = []

abbrev pub read_staff : StaffArrays → Staff
read_staff s = by_fours (cut_by s.counts (read_items s.heads s.keys))
