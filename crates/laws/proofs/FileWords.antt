-- The words that a file's messages give: their bytes, and which of them document 01 takes.
use Prim.Native.Nat.{ℕ, ◌/◌, ◌%◌, ◌≤◌, ◌<◌}
use mathlib.Core.Bool.{true, ◌||◌, and-true, or-false, or-true}
use mathlib.Core.Path.{◌≡◌, refl}
use native.Mathlib.Omega.{arith}
use borrow.Author.Tests.{le-leb}
use lib.Dec.{eqb, leb}
use Rattle.rules.specs.Piece.{kind_of, byte_a, byte_b, byte_c, largest_power, well_formed, word}
use Rattle.rules.specs.File.{has_one_byte}
use Rattle.rules.proofs.Meanings.{up}

-- ---- a word's bytes

module _ (k a b c : ℕ) (ha : a < 0x100) (hb : b < 0x100) (hc : c < 0x100) where
  pub word_kind : kind_of (word k a b c) ≡ k
  word_kind = omega arith

  pub word_a : byte_a (word k a b c) ≡ a
  word_a = omega arith

  pub word_b : byte_b (word k a b c) ≡ b
  word_b = omega arith

  pub word_c : byte_c (word k a b c) ≡ c
  word_c = omega arith

-- ---- which are taken

pub word_tempo : (a b c : ℕ) → a < 0x100 → b < 0x100 → c < 0x100 → well_formed (word 2 a b c) ≡ true
unfolding well_formed
word_tempo a b c ha hb hc = rw (word_kind 2 a b c ha hb hc)

module _ (a b : ℕ) (ha : a < 0x100) (hb : b < 0x100) where
  -- a meter by its power, a key by minor
  pub word_meter : well_formed (word 3 a b 0) ≡ leb b largest_power
  unfolding well_formed
  word_meter =
      rw (word_kind 3 a b 0 ha hb (omega arith), word_b 3 a b 0 ha hb (omega arith), word_c 3 a b 0 ha hb (omega arith)) (simp (and-true, or-false))

  pub word_key : well_formed (word 4 a b 0) ≡ leb b 1
  unfolding well_formed
  word_key =
      rw (word_kind 4 a b 0 ha hb (omega arith), word_b 4 a b 0 ha hb (omega arith), word_c 4 a b 0 ha hb (omega arith)) (simp (and-true, or-false))

  pub word_marker : well_formed (word 5 a b 0) ≡ true
  unfolding well_formed
  word_marker = rw (word_kind 5 a b 0 ha hb (omega arith), word_c 5 a b 0 ha hb (omega arith))

-- the kinds of no bytes
pub word_plain : (well_formed (word 0 0 0 0) ≡ true) × (well_formed (word 1 0 0 0) ≡ true) × (well_formed (word 6 0 0 0) ≡ true)
unfolding well_formed
word_plain = (refl, refl, refl)

-- ---- channel messages

module _ (a x : ℕ) (ha : a < 0x10) (hx : x < 0x80) where
  two_bytes : (k y : ℕ) → y < 0x80 → eqb k 8 || eqb k 9 || eqb k 10 || eqb k 11 || eqb k 14 ≡ true → well_formed (word k a x y) ≡ true
  unfolding well_formed
  two_bytes k y hy t =
      rw (
        word_kind k a x y (omega arith) (omega arith) (omega arith),
        word_a k a x y (omega arith) (omega arith) (omega arith),
        word_b k a x y (omega arith) (omega arith) (omega arith),
        word_c k a x y (omega arith) (omega arith) (omega arith),
        t,
        le-leb a 15 (omega arith),
        le-leb x 127 (omega arith),
        le-leb y 127 (omega arith),
      )
      (simp or-true)

  one_byte : (k : ℕ) → eqb k 12 || eqb k 13 ≡ true → well_formed (word k a x 0) ≡ true
  unfolding well_formed
  one_byte k t =
      rw (
        word_kind k a x 0 (omega arith) (omega arith) (omega arith),
        word_a k a x 0 (omega arith) (omega arith) (omega arith),
        word_b k a x 0 (omega arith) (omega arith) (omega arith),
        word_c k a x 0 (omega arith) (omega arith) (omega arith),
        t,
        le-leb a 15 (omega arith),
        le-leb x 127 (omega arith),
      )
      (simp or-true)

  -- a kind from 8 to 14; 12 and 13 have one data byte
  word_nibble : (y : ℕ) → y < 0x80 → (k : ℕ) → 8 ≤ k → k ≤ 14 → (eqb k 0xc || eqb k 0xd ≡ true → y ≡ 0) → well_formed (word k a x y) ≡ true
  word_nibble y hy k lo hi =
      let Taken : ℕ → Type 0 = λ k. (eqb k 0xc || eqb k 0xd ≡ true → y ≡ 0) → well_formed (word k a x y) ≡ true in
      up Taken k 8 lo (λ o. two_bytes 8 y hy refl) λ h.
      up Taken k 9 h (λ o. two_bytes 9 y hy refl) λ h.
      up Taken k 10 h (λ o. two_bytes 10 y hy refl) λ h.
      up Taken k 11 h (λ o. two_bytes 11 y hy refl) λ h.
      up Taken k 12 h (λ o. rw (o refl) (one_byte 12 refl)) λ h.
      up Taken k 13 h (λ o. rw (o refl) (one_byte 13 refl)) λ h.
      up Taken k 14 h (λ o. two_bytes 14 y hy refl) λ h. absurd (omega arith)

pub word_channel : (s x y : ℕ) → 8 ≤ s / 0x10 → s / 0x10 ≤ 14 → x < 0x80 → y < 0x80 → (has_one_byte s ≡ true → y ≡ 0)
    → well_formed (word (s / 0x10) (s % 0x10) x y) ≡ true
word_channel s x y lo hi hx hy one = word_nibble (s % 0x10) x (omega arith) hx y hy (s / 0x10) lo hi one
