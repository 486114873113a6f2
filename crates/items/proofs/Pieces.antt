-- The words of rests and of a chord's pieces: a span's values, all with the same bits, and the ties at both ends taken off.
use Prim.Native.Nat.{ℕ, suc, ◌+◌, ◌-◌, ◌*◌, ◌/◌, ◌%◌, ◌^◌}
use mathlib.Core.Bool.{Bool, true, false}
use mathlib.Core.List.{List, [], ◌∷◌, map, flat_map, flatten}
use mathlib.Core.Path.{◌≡◌, refl, ap}
use native.Mathlib.Omega.{arith}
use lib.ListN.{length}
use mir.Val.{bool_byte}
use Rattle.rules.specs.Lists.{flag}
use Rattle.rules.specs.Items.{head_of}
use Rattle.rules.specs.Staff.{rest_of, piece_of, pieces}
use Rattle.rules.specs.Values.{Value}
use Rattle.rules.specs.Voices.{Chord}
use Rattle.values.specs.Table.{piece_word}
use Rattle.items.specs.Writing.{key_words, pairs, untied}

-- ---- rests

rest_head : (v : Value) → head_of (rest_of v) ≡ piece_word 256 v
rest_head v = omega arith

pub rest_heads : (vs : List Value) → map head_of (map rest_of vs) ≡ map (piece_word 256) vs
rest_heads [] = refl
rest_heads (v ∷ vs) = rw (rest_head v, rest_heads vs)

pub rest_keys : (vs : List Value) → flat_map key_words (map rest_of vs) ≡ pairs 0 0 (length vs)
unfolding flat_map flatten
rest_keys [] = refl
rest_keys (v ∷ vs) = ap (λ (l : List ℕ). 0 ∷ 0 ∷ l) (rest_keys vs)

-- ---- a chord's pieces

-- the bits of a chord's head, tied on both sides
abbrev pub tied_bits : Bool → ℕ
tied_bits u = 96 + flag u * 128

-- a mark as the code casts it
pub byte_flag : (b : Bool) → bool_byte b ≡ flag b
byte_flag true = refl
byte_flag false = refl

module _ (c : Chord) where
  pub pieces_length : (is_in is_out : Bool) (vs : List Value) → length (pieces c is_in is_out vs) ≡ length vs
  unfolding pieces
  pieces_length is_in is_out [] = refl
  pieces_length is_in is_out (v ∷ vs) = ap suc (pieces_length true is_out vs)

  pub pieces_keys : (is_in is_out : Bool) (vs : List Value)
      → flat_map key_words (pieces c is_in is_out vs) ≡ pairs (c.keys % 2 ^ 64) (c.keys / 2 ^ 64) (length vs)
  unfolding pieces flat_map flatten
  pieces_keys is_in is_out [] = refl
  pieces_keys is_in is_out (v ∷ vs) =
      ap (λ (l : List ℕ). c.keys % 2 ^ 64 ∷ c.keys / 2 ^ 64 ∷ l) (pieces_keys true is_out vs)

  -- a piece's word: that with both ties, less those that it has not
  module _ (v : Value) where
    head_both : head_of (piece_of c true true v) ≡ piece_word (tied_bits c.unpitched) v
    head_both = omega arith

    head_in : head_of (piece_of c true false v) ≡ piece_word (tied_bits c.unpitched) v - 64
    head_in = omega arith

    head_out : head_of (piece_of c false true v) ≡ piece_word (tied_bits c.unpitched) v - 32
    head_out = omega arith

    head_alone : head_of (piece_of c false false v) ≡ piece_word (tied_bits c.unpitched) v - 32 - 64
    head_alone = omega arith

  -- tied in: the last piece has a tie-out only where the chord goes on
  tied_heads : (is_out : Bool) (v : Value) (vs : List Value)
      → untied 64 (length vs) is_out (map (piece_word (tied_bits c.unpitched)) (v ∷ vs)) ≡ map head_of (pieces c true is_out (v ∷ vs))
  unfolding pieces
  tied_heads true v [] = rw (head_both v)
  tied_heads false v [] = rw (head_in v)
  tied_heads true v (u ∷ vs) = rw (head_both v) (ap (λ (l : List ℕ). piece_word (tied_bits c.unpitched) v ∷ l) (tied_heads true u vs))
  tied_heads false v (u ∷ vs) = rw (head_both v) (ap (λ (l : List ℕ). piece_word (tied_bits c.unpitched) v ∷ l) (tied_heads false u vs))

  -- and the first has a tie-in only where the chord began before
  pub piece_heads : (is_in is_out : Bool) (v : Value) (vs : List Value)
      → untied 64 (length vs) is_out (untied 32 0 is_in (map (piece_word (tied_bits c.unpitched)) (v ∷ vs))) ≡ map head_of (pieces c is_in is_out (v ∷ vs))
  unfolding pieces
  piece_heads true is_out v vs = tied_heads is_out v vs
  piece_heads false true v [] = rw (head_out v)
  piece_heads false false v [] = rw (head_alone v)
  piece_heads false true v (u ∷ vs) = rw (head_out v) (ap (λ (l : List ℕ). (piece_word (tied_bits c.unpitched) v - 32) ∷ l) (tied_heads true u vs))
  piece_heads false false v (u ∷ vs) = rw (head_out v) (ap (λ (l : List ℕ). (piece_word (tied_bits c.unpitched) v - 32) ∷ l) (tied_heads false u vs))
