-- What the functions' proofs cite: bounds on signed sums, names at their places, refusals. Assumes nothing.
use mathlib.Core.Path.{◌≡◌, sym}
use Prim.Native.Nat.{ℕ, zero, suc, ◌+◌, ◌-◌, ◌*◌, ◌/◌, ◌%◌, ◌≤◌, ◌<◌}
use native.Mathlib.Omega.{arith}
use mathlib.Core.Bool.{Bool, true, false, cond}
use mathlib.Core.List.{List}
use borrow.Author.Tests.{lt-ltb, le-ltb}
use lib.Dec.{ltb}
use lib.IntN.{ℤ, pos, negsuc, neg_ℤ, sub_ℕ, ◌+ℤ◌, ◌-ℤ◌, ◌*ℤ◌}
use lib.ListN.{length, get_or, get_or-eq_default}
use lib.Signed.{mag}
use mir.Syntax.{w8, w16}
use mir.Val.{SFits, to_z, of_z}
use mir.Facts.{sfits_widen, to_z-of_z, to_z_pos}
use Rattle.rules.specs.Refusals.{refused, given, unless}
use Rattle.rules.specs.Spelling.{Name, C, natural, sharp_names, flat_names}
use Rattle.pitch.specs.Calls.{either_call}

-- ---- signed sums

mag_sub : (a b : ℕ) → mag (sub_ℕ a b) ≤ a + b
mag_sub a b = go (ltb a b)
  where
    go : (t : Bool) → mag (cond t (negsuc (b - suc a)) (pos (a - b))) ≤ a + b
    go true = omega arith
    go false = omega arith

mag_add : (x y : ℤ) → mag (x +ℤ y) ≤ mag x + mag y + 1
mag_add (pos a) (pos b) = omega arith
mag_add (pos a) (negsuc b) = omega (arith, mag_sub a (suc b))
mag_add (negsuc a) (pos b) = omega (arith, mag_sub b (suc a))
mag_add (negsuc a) (negsuc b) = omega arith

mag_neg : (n : ℕ) → mag (neg_ℤ (pos n)) ≤ n
mag_neg zero = omega arith
mag_neg (suc n) = omega arith

mag_twelve : (x : ℤ) → mag (x *ℤ pos 12) ≤ mag x * 12 + 12
mag_twelve (pos a) = omega arith
mag_twelve (negsuc a) = omega (arith, mag_neg (suc a * 12))

-- A signed local holds bits. What fits is read back as it was, also after it was widened.
pub read_wide : (z : ℤ) → SFits w8 z → to_z w16 (of_z w16 (to_z w8 (of_z w8 z))) ≡ z
read_wide z f = rw (to_z-of_z f) (to_z-of_z {w = w16} (sfits_widen {w = w8} {w' = w16} {z = z} (tt {0}) f))

pub read_step : (n : ℕ) → n < 256 → to_z w16 n ≡ pos n
read_step n h = to_z_pos w16 (omega arith)

-- The key of a pitch fits an i16, and so does each sum on the way.
module _ (o : ℤ) (f : SFits w8 o) where
  pub fits_next : SFits w16 (o +ℤ pos 1)
  fits_next = record { sfits = omega (arith, f.sfits, mag_add o (pos 1)) }

  base_small : mag ((o +ℤ pos 1) *ℤ pos 12) ≤ 1560
  base_small = omega (arith, f.sfits, mag_add o (pos 1), mag_twelve (o +ℤ pos 1))

  pub fits_base : SFits w16 ((o +ℤ pos 1) *ℤ pos 12)
  fits_base = record { sfits = omega (arith, base_small) }

  natural_small : (n : ℕ) → n < 256 → mag ((o +ℤ pos 1) *ℤ pos 12 +ℤ pos n) ≤ 1816
  natural_small n h = omega (arith, base_small, mag_add ((o +ℤ pos 1) *ℤ pos 12) (pos n))

  pub fits_natural : (n : ℕ) → n < 256 → SFits w16 ((o +ℤ pos 1) *ℤ pos 12 +ℤ pos n)
  fits_natural n h = record { sfits = omega (arith, natural_small n h) }

  pub fits_key : (n : ℕ) (a : ℤ) → n < 256 → SFits w8 a → SFits w16 ((o +ℤ pos 1) *ℤ pos 12 +ℤ pos n +ℤ a)
  fits_key n a h fa = record { sfits = omega (arith, natural_small n h, fa.sfits, mag_add ((o +ℤ pos 1) *ℤ pos 12 +ℤ pos n) a) }

  pub read_base : to_z w16 (of_z w16 (to_z w16 (of_z w16 (to_z w16 (of_z w16 (to_z w8 (of_z w8 o))) +ℤ pos 1)) *ℤ pos 12)) ≡ (o +ℤ pos 1) *ℤ pos 12
  read_base = rw (read_wide o f, to_z-of_z fits_next) (to_z-of_z fits_base)

-- ---- names

pub name_at : (names : List Name) (k : ℕ) {pc : ℕ} → pc ≡ k → get_or names k (natural C) ≡ get_or names pc (natural C)
name_at names k e = rw e

pub name_past : (names : List Name) (pc : ℕ) → length names ≤ pc → natural C ≡ get_or names pc (natural C)
name_past names pc p = sym (get_or-eq_default names (natural C) p)

-- ---- spellings

pub octave_fits : (key : ℕ) → key ≤ 127 → SFits w8 (to_z w8 (key / 12) -ℤ pos 1)
octave_fits key h =
    rw (to_z_pos w8 {n = key / 12} (omega arith))
    (record { sfits = omega (arith, mag_sub (key / 12) 1) })

pub octave_is : (key : ℕ) → key ≤ 127 → to_z w8 (of_z w8 (to_z w8 (key / 12) -ℤ pos 1)) ≡ sub_ℕ (key / 12) 1
octave_is key h = rw (to_z-of_z (octave_fits key h), to_z_pos w8 {n = key / 12} (omega arith))

pub refused_key : (key : ℕ) (flat : Bool) → 127 < key → refused 10 ≡ either_call key flat
unfolding unless
refused_key key flat h = rw (lt-ltb 127 key h)

-- the names of one spelling or the other
abbrev pub names : Bool → List Name
names flat = cond flat flat_names sharp_names

pub given_key : (key : ℕ) (flat : Bool) (n : Name) → key ≤ 127 → n ≡ get_or (names flat) (key % 12) (natural C)
    → given (record { step = n.step; octave = sub_ℕ (key / 12) 1; alter = n.alter }) ≡ either_call key flat
unfolding unless
given_key key true n h e = rw (le-ltb 127 key h, e)
given_key key false n h e = rw (le-ltb 127 key h, e)
