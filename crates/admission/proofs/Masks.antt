-- The bits that a word must not have: with none of its kind's it is well formed. Blocks of words that are.
use Prim.Native.Nat.{ℕ, zero, suc, ◌+◌, ◌-◌, ◌*◌, ◌/◌, ◌%◌, ◌^◌, ◌≤◌, ◌<◌}
use mathlib.Core.Bool.{true}
use mathlib.Core.List.{List}
use mathlib.Core.Logic.{◌⊎◌, inl, inr}
use mathlib.Core.Path.{◌≡◌, refl, sym, ◌∙◌}
use native.Mathlib.Nat.{div-lt_iff_lt-mul, mod-eq_of_lt, mul-div_cancel, zero-div}
use native.Mathlib.Omega.{arith}
use borrow.Author.Tests.{le-leb}
use lib.Bits.{bit_and, bit_or, bit_xor, xor_add_and, and_shr, and_mod, and_high, and_mask, and_le_l, and_le_r, or_add_and}
use lib.ListN.{length, get_or, set, replicate, get_or-replicate}
use lib.Pow.{pow_pos, pow-add}
use lib.Seq.{get_or-set_same, get_or-set_other}
use Rattle.rules.specs.Piece.{well_formed, kind_of, byte_a, byte_b, byte_c}
use Rattle.track_events.proofs.WordTable.{limits, meta_word, tempo_word, meter_word, key_word, marker_word, note_word, program_word}
use Rattle.laws.proofs.Order.{by_eq, by_lt}
use Rattle.admission.specs.Bad.{AllFormed, mask, masks, Masked, HasMasks}

-- ---- an or, and an exclusive or

pub or_left : (m n : ℕ) → m ≤ bit_or m n
or_left m n = omega (arith, or_add_and m n, and_le_r m n)

pub or_right : (m n : ℕ) → n ≤ bit_or m n
or_right m n = omega (arith, or_add_and m n, and_le_l m n)

xor_none : (m n : ℕ) → bit_xor m n ≡ 0 → m ≡ n
xor_none m n z = omega (arith, z, xor_add_and m n, and_le_l m n, and_le_r m n)

pub or_none : (m n : ℕ) → bit_or m n ≡ 0 → (m ≡ 0) × (n ≡ 0)
or_none m n z = (omega (arith, z, or_left m n), omega (arith, z, or_right m n))

-- ---- masks

-- without the bits from bit i on a byte is below 2 ^ i
low : (a i : ℕ) → i ≤ 8 → a < 256 → bit_and a (256 - 2 ^ i) ≡ 0 → a < 2 ^ i
low a i l h z =
    let p = pow_pos i in
    let j = 8 - i in
    let e : j + i ≡ 8 = omega arith in
    let whole : 2 ^ j * 2 ^ i ≡ 256 = sym (pow-add 2 j i) ∙ rw e in
    let few : a / 2 ^ i < 2 ^ j = (div-lt_iff_lt-mul p).1 (omega (arith, h, whole)) in
    let high : a / 2 ^ i % 2 ^ j * 2 ^ i ≡ 0 = sym (and_high a j i) ∙ rw e z in
    let none : a / 2 ^ i ≡ 0 = sym (mod-eq_of_lt few) ∙ sym (mul-div_cancel (a / 2 ^ i % 2 ^ j) p) ∙ rw high (zero-div (2 ^ i)) in
    let below : a < 1 * 2 ^ i = (div-lt_iff_lt-mul p).0 (omega (arith, none)) in
    omega (arith, below)

-- the bytes of an and
byte_and : (w m v k : ℕ) → bit_and w m ≡ v → bit_and (w / 2 ^ k % 256) (m / 2 ^ k % 256) ≡ v / 2 ^ k % 256
byte_and w m v k z = sym (and_mod (w / 2 ^ k) (m / 2 ^ k) 8) ∙ rw (← and_shr w m k, z)

-- a word of which, under t and a mask, only bits of the kind are left has its bytes within limits
limited : (w t u i j k : ℕ)
    → (i ≤ 8) × (j ≤ 8) × (k ≤ 8)
    → bit_and w (t * 16777216 + mask i j k) ≡ u * 16777216
    → limits w (2 ^ i - 1) (2 ^ j - 1) (2 ^ k - 1) ≡ true
limited w t u i j k h z =
    let m = t * 16777216 + mask i j k in
    let v = u * 16777216 in
    let at_a : m / 2 ^ 16 % 256 ≡ 256 - 2 ^ i = omega (arith, pow_pos i, pow_pos j, pow_pos k) in
    let at_b : m / 2 ^ 8 % 256 ≡ 256 - 2 ^ j = omega (arith, pow_pos i, pow_pos j, pow_pos k) in
    let at_c : m / 2 ^ 0 % 256 ≡ 256 - 2 ^ k = omega (arith, pow_pos i, pow_pos j, pow_pos k) in
    let no_a : v / 2 ^ 16 % 256 ≡ 0 = omega arith in
    let no_b : v / 2 ^ 8 % 256 ≡ 0 = omega arith in
    let no_c : v / 2 ^ 0 % 256 ≡ 0 = omega arith in
    let a = low (byte_a w) i h.0 (omega arith) (rw (at_a, no_a) at (byte_and w m v 16 z)) in
    let b = low (byte_b w) j h.1 (omega arith) (rw (at_b, no_b) at (byte_and w m v 8 z)) in
    let c = low (w / 2 ^ 0 % 256) k h.2 (omega arith) (rw (at_c, no_c) at (byte_and w m v 0 z)) in
    rw (le-leb (byte_a w) (2 ^ i - 1) (omega (arith, a)), le-leb (byte_b w) (2 ^ j - 1) (omega (arith, b)), le-leb (byte_c w) (2 ^ k - 1) (omega (arith, c)))

-- what holds below m, and at n numbers from m on, holds below m + n
abbrev Rows : (ℕ → Type 0) → ℕ → ℕ → Type 0
Rows P m zero = (k : ℕ) → k < m → P k
Rows P m (suc n) = P m → Rows P (suc m) n

rows : (P : ℕ → Type 0) (m n : ℕ) → ((k : ℕ) → k < m → P k) → Rows P m n
rows P m zero h = h
rows P m (suc n) h = λ p. rows P (suc m) n (λ k l. elim (by_eq k m) [ inl e ↦ rw e p | inr e ↦ h k (omega arith) ])

-- a word that has no bit of its kind's mask
module _ (w : ℕ) (h : w < 2 ^ 32) where
  abbrev Row : ℕ → Type 0
  Row k = kind_of w ≡ k → bit_and w (get_or masks k 0) ≡ 0 → well_formed w ≡ true

  none : 0 < kind_of w → bit_and w 4294967295 ≡ 0 → well_formed w ≡ true
  none p z = absurd (omega (arith, and_mask w 32))

  meta : (kind_of w ≡ 6) ⊎ (kind_of w < 2) → bit_and w (mask 0 0 0) ≡ 0 → well_formed w ≡ true
  meta e z = meta_word w e ∙ limited w 0 0 0 0 0 (omega arith) z

  note : (kind_of w ≡ 14) ⊎ ((8 ≤ kind_of w) × (kind_of w < 12)) → bit_and w (mask 4 7 7) ≡ 0 → well_formed w ≡ true
  note e z = note_word w e ∙ limited w 0 0 4 7 7 (omega arith) z

  program : (12 ≤ kind_of w) × (kind_of w < 14) → bit_and w (mask 4 7 0) ≡ 0 → well_formed w ≡ true
  program e z = program_word w e.0 e.1 ∙ limited w 0 0 4 7 0 (omega arith) z

  by_kind : (k : ℕ) → k < 15 → Row k
  by_kind =
      rows
      Row
      0
      15
      (λ k l. absurd (omega arith))
      (λ e. meta (inr (omega arith)))
      (λ e. meta (inr (omega arith)))
      (λ e z. sym (tempo_word w e))
      (λ e z. meter_word w e ∙ limited w 0 0 8 3 0 (omega arith) z)
      (λ e z. key_word w e ∙ limited w 0 0 8 1 0 (omega arith) z)
      (λ e z. marker_word w e ∙ limited w 0 0 8 8 0 (omega arith) z)
      (λ e. meta (inl e))
      (λ e. none (omega arith))
      (λ e. note (inr (omega arith)))
      (λ e. note (inr (omega arith)))
      (λ e. note (inr (omega arith)))
      (λ e. note (inr (omega arith)))
      (λ e. program (omega arith))
      (λ e. program (omega arith))
      (λ e. note (inl e))

  pub formed : (table : List ℕ) → HasMasks table → bit_and w (get_or table (kind_of w) 0) ≡ 0 → well_formed w ≡ true
  formed table m z =
      elim (by_lt (kind_of w) 15) [
        | inl l ↦ by_kind (kind_of w) l refl (rw (m.before (kind_of w) l) at z)
        | inr l ↦ none (omega arith) (rw (m.behind (kind_of w) l (omega arith)) at z)
      ]

  -- a word whose bits under 252 and the mask of a note are 8 alone: its kind is 8 to 11
  pub plain_formed : bit_xor (bit_and w (252 * 16777216 + mask 4 7 7)) (8 * 16777216) ≡ 0 → well_formed w ≡ true
  plain_formed z =
      let m = 252 * 16777216 + mask 4 7 7 in
      let v = 8 * 16777216 in
      let only : bit_and w m ≡ v = xor_none (bit_and w m) v z in
      let kind : w / 2 ^ 24 % 256 ≡ kind_of w = omega arith in
      let high : kind_of w / 4 % 64 * 4 ≡ 8 = sym (and_high (kind_of w) 6 2) ∙ rw kind at (byte_and w m v 24 only) in
      let few : kind_of w / 4 < 64 = omega arith in
      let two : kind_of w / 4 ≡ 2 = omega (arith, high, mod-eq_of_lt few) in
      note_word w (inr (omega (arith, two), omega (arith, two))) ∙ limited w 252 8 4 7 7 (omega arith) only

-- ---- blocks

pub formed_none : (ws : List ℕ) (i : ℕ) → AllFormed ws i i
formed_none ws i = record { each = λ j f t. absurd (omega arith) }

pub formed_more : {ws : List ℕ} {from i : ℕ} → AllFormed ws from i → well_formed (get_or ws i 0) ≡ true → AllFormed ws from (i + 1)
formed_more {i = i} all e = record { each = λ j f t. elim (by_eq j i) [ inl q ↦ rw q e | inr q ↦ all.each j f (omega arith) ] }

-- ---- the table

pub masked_none : (n : ℕ) → 256 ≤ n → Masked (replicate n 4294967295) 0
masked_none n h = record { before = λ k l. absurd (omega arith); behind = λ k f l. get_or-replicate n k 4294967295 0 (omega arith) }

pub masked_more : {table : List ℕ} {n v : ℕ} → Masked table n → n < length table → v ≡ get_or masks n 0 → Masked (set table n v) (n + 1)
masked_more {table = table} {n = n} {v = v} m l e =
    record {
      before = λ k b.
          elim (by_eq k n) [
            | inl q ↦ rw q (get_or-set_same table n v 0 l ∙ e)
            | inr q ↦ get_or-set_other table n k v 0 q ∙ m.before k (omega arith)
          ];
      behind = λ k f b. get_or-set_other table n k v 0 (λ q. omega (arith, q)) ∙ m.behind k (omega arith) b;
    }
