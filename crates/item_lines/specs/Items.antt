-- The line of an item, as bytes.
use Rattle.std.specs.Prelude.{ℕ, zero, suc, ◌+◌, ◌%◌, Bool, cond, List, [], ◌∷◌, ◌++◌, ◌≡◌, eqb, take}
use Rattle.rules.specs.Lists.{bit, is_empty}
use Rattle.line_text.specs.Text.{decimal}

-- the key of bit k of a word, where it is set; base is the key of bit 0
unfoldable pub bit_key : ℕ → ℕ → ℕ → List ℕ
bit_key k word base = cond (eqb (bit k word) 1) ((base + k) ∷ []) []

-- the keys of a word's first bits, ascending
unfoldable pub word_keys : ℕ → ℕ → ℕ → List ℕ
word_keys zero word base = []
word_keys (suc k) word base = word_keys k word base ++ bit_key k word base

-- Keys ascending: bit k of the first word for key k, of the second for key 64 + k.
abbrev pub keys_of : ℕ → ℕ → List ℕ
keys_of low high = word_keys 64 low 0 ++ word_keys 64 high 64

-- each behind a comma
unfoldable pub behind_commas : List ℕ → List ℕ
behind_commas [] = []
behind_commas (k ∷ ks) = 44 ∷ decimal k ++ behind_commas ks

unfoldable pub commas : List ℕ → List ℕ
commas [] = []
commas (k ∷ ks) = decimal k ++ behind_commas ks

-- `rest`, or the keys by commas
unfoldable pub sound_text : ℕ → ℕ → ℕ → List ℕ
sound_text head low high =
    cond (eqb (bit 8 head) 1) (114 ∷ 101 ∷ 115 ∷ 116 ∷ []) (commas (keys_of low high))

-- a letter where a bit is set, else `-`
unfoldable pub letter : ℕ → ℕ → List ℕ
letter set b = cond (eqb set 1) (b ∷ []) (45 ∷ [])

-- ` u` if unpitched, and the line's end
unfoldable pub item_end : ℕ → List ℕ
item_end head = cond (eqb (bit 7 head) 1) (32 ∷ 117 ∷ 10 ∷ []) (10 ∷ [])

-- voice, code, dots
unfoldable pub value_text : ℕ → ℕ → List ℕ
value_text voice head = decimal voice ++ 32 ∷ decimal (head % 16) ++ 32 ∷ decimal (bit 4 head)

-- `e` tie-in, `s` tie-out
unfoldable pub ties_text : ℕ → List ℕ
ties_text head = 32 ∷ letter (bit 5 head) 101 ++ letter (bit 6 head) 115 ++ 32 ∷ []

-- Voice, code, dots, ties, keys or `rest`, then ` u`.
abbrev pub item_line : ℕ → ℕ → ℕ → ℕ → List ℕ
item_line voice head low high = value_text voice head ++ ties_text head ++ sound_text head low high ++ item_end head

-- the page is a text and some keys by commas
pub record Keyed (t ks : List ℕ) (at : ℕ) (none : Bool) (page : List ℕ) : Type 0 where
  pub text : take at page ≡ t ++ commas ks
  pub first : none ≡ is_empty ks
