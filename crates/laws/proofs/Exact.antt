-- Where sums and halves of doubles are exact: numbers below 2 ^ 53 over a power of two. Assumes nothing.
use mathlib.Core.Path.{◌≡◌, sym, ap, ap₂, ◌∙◌, subst}
use Prim.Native.Nat.{ℕ, ◌+◌, ◌-◌, ◌*◌, ◌^◌, ◌≤◌, ◌<◌}
use native.Mathlib.Nat.{mul_assoc, mul_comm, mul-one, mul_right_comm, mul-pos, add-mul, eq_of_mul-eq-mul_right, lt_of_lt_of_le}
use native.Mathlib.Omega.{arith}
use mathlib.Core.Bool.{Bool, false}
use lib.Dec.{lit<, lit≤}
use lib.IntN.{pos}
use lib.Pow.{pow-add, pow_mono, pow_pos, shl_lt}
use lib.Ieee.{Float, nan, inf, fin, binary64, up, down, round, add, div, sum}
use lib.Ieee.Digits.{back}
use lib.Ieee.Exact.{HasValue, round_exact}
use lib.Ieee.Fits.{down_pos}
use lib.Ieee.Scale.{round_same}
use Rattle.laws.specs.Exact.{Is256}

-- one value as two fractions
pub rescale : (x : Float) (s : Bool) (a c b d : ℕ) → 0 < c → b * c ≡ a * d → HasValue x s a c → HasValue x s b d
rescale nan s a c b d p h v = v
rescale (inf t) s a c b d p h v = v
rescale (fin t m e) s a c b d p h v = (
  v.0,
  eq_of_mul-eq-mul_right c p (m * up e * d) (b * down e)
      (mul_right_comm (m * up e) d c
      ∙ ap (λ (x : ℕ). x * d) v.1
      ∙ mul_right_comm a (down e) d
      ∙ ap (λ (x : ℕ). x * down e) (sym h)
      ∙ mul_right_comm b c (down e)),
)

-- a / 2 ^ k is a double
pub whole : (a k : ℕ) → a < 2 ^ 53 → k ≤ 1074 → HasValue (round binary64 false a (2 ^ k)) false a (2 ^ k)
whole a k ha hk =
    let fine : 53 + (1074 - k) ≤ 2098 = omega arith in
    let split : 2 ^ 1074 ≡ 2 ^ (1074 - k) * 2 ^ k = sym (ap (λ (n : ℕ). 2 ^ n) (back 1074 k hk)) ∙ pow-add 2 (1074 - k) k in
    round_exact binary64 false a (2 ^ k) a (1074 - k) (pow_pos k) ha
    (lt_of_lt_of_le (shl_lt 53 (1074 - k) ha) (pow_mono fine))
    (ap (λ (n : ℕ). a * n) split ∙ sym (mul_assoc a (2 ^ (1074 - k)) (2 ^ k)))

-- a fraction of that value rounds to it
rounds : (a k num den : ℕ) → a < 2 ^ 53 → k ≤ 1074 → 0 < den → num * 2 ^ k ≡ a * den → HasValue (round binary64 false num den) false a (2 ^ k)
rounds a k num den ha hk hd h =
    subst (λ (x : Float). HasValue x false a (2 ^ k)) (sym (round_same binary64 false num den a (2 ^ k) hd (pow_pos k) h)) (whole a k ha hk)

cross : (x y d e c a b : ℕ) → x * c ≡ a * e → y * c ≡ b * d → (x * d + y * e) * c ≡ (a + b) * (e * d)
cross x y d e c a b p q =
    add-mul (x * d) (y * e) c
    ∙ ap₂ (λ (m n : ℕ). m + n)
    (mul_right_comm x d c ∙ ap (λ (n : ℕ). n * d) p ∙ mul_assoc a e d)
    (mul_right_comm y e c ∙ ap (λ (n : ℕ). n * e) q ∙ mul_assoc b d e ∙ ap (λ (n : ℕ). b * n) (mul_comm d e))
    ∙ sym (add-mul a b (e * d))

-- the sum of two such
pub add_exact : (k : ℕ) (x y : Float) (a b : ℕ) → k ≤ 1074 → HasValue x false a (2 ^ k) → HasValue y false b (2 ^ k) → a + b < 2 ^ 53
    → HasValue (add binary64 x y) false (a + b) (2 ^ k)
unfolding add sum
add_exact k nan y a b hk v w h = absurd v
add_exact k (inf t) y a b hk v w h = absurd v
add_exact k (fin t m e) nan a b hk v w h = absurd w
add_exact k (fin t m e) (inf u) a b hk v w h = absurd w
add_exact k (fin t m e) (fin u n d) a b hk v w h =
    rw (v.0, w.0)
    (rounds (a + b) k (m * up e * down d + n * up d * down e) (down e * down d) h hk (mul-pos (down_pos e) (down_pos d))
    (cross (m * up e) (n * up d) (down d) (down e) (2 ^ k) a b v.1 w.1))

twice : (x e c a : ℕ) → x * c ≡ a * e → x * 1 * (c * 2) ≡ a * (2 * e)
twice x e c a p =
    ap (λ (n : ℕ). n * (c * 2)) (mul-one x) ∙ sym (mul_assoc x c 2) ∙ ap (λ (n : ℕ). n * 2) p ∙ mul_assoc a e 2 ∙ ap (λ (n : ℕ). a * n) (mul_comm e 2)

-- half of one: `2.0` is `fin false 1 (pos 1)`
pub half : (k : ℕ) (x : Float) (a : ℕ) → k < 1074 → HasValue x false a (2 ^ k) → a < 2 ^ 53
    → HasValue (div binary64 x (fin false 1 (pos 1))) false a (2 ^ (k + 1))
unfolding div
half k nan a hk v h = absurd v
half k (inf t) a hk v h = absurd v
half k (fin t m e) a hk v h =
    rw v.0
    (rounds a (k + 1) (m * up e * 1) (2 * down e) h (omega arith) (mul-pos (lit< tt) (down_pos e))
    (ap (λ (n : ℕ). m * up e * 1 * n) (pow-add 2 k 1) ∙ twice (m * up e) (down e) (2 ^ k) a v.1))

pub whole_256 : (n : ℕ) → n < 2 ^ 53 → Is256 (round binary64 false n 256) n
whole_256 n h = whole n 8 h (lit≤ tt)

pub add_256 : (x y : Float) (a b : ℕ) → Is256 x a → Is256 y b → a + b < 2 ^ 53 → Is256 (add binary64 x y) (a + b)
add_256 x y a b v w h = add_exact 8 x y a b (lit≤ tt) v w h
