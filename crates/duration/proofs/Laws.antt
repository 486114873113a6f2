-- What the functions' proofs cite: the ten values by computing, the refusals, and the sums dot by dot. Assumes nothing.
use mathlib.Core.Path.{◌≡◌, refl, sym, ap, ◌∙◌}
use mathlib.Core.Logic.{⊎_elim}
use Prim.Native.Nat.{ℕ, zero, suc, ◌+◌, ◌-◌, ◌*◌, ◌/◌, ◌^◌, ◌≤◌, ◌<◌}
use native.Mathlib.Nat.{not-suc-le-zero, le_of_suc-le-suc, eq-or-lt_of_le, mul-one, mul_assoc, mul_comm, mul-add, mul-le-mul}
use native.Mathlib.Omega.{arith}
use mathlib.Core.Bool.{Bool, true, false, cond}
use mathlib.Core.List.{[], ◌∷◌}
use borrow.Author.Tests.{lt-ltb, le-ltb}
use lib.Dec.{T, eqb, leb, ltb, lit<, eqb→eq, leb→le}
use lib.IntN.{pos}
use lib.Ieee.{Float, fin, binary64, add, mul, div, of_int, round}
use lib.Ieee.Exact.{HasValue}
use lib.Ieee.Fits.{and_l, and_r}
use lib.Pow.{pow-add, pow_mono, pow_pos}
use Rattle.laws.specs.Exact.{Is256}
use Rattle.laws.proofs.Exact.{rescale, half, add_exact}
use Rattle.rules.specs.Lists.{below}
use Rattle.rules.specs.Refusals.{refused, given, unless}
use Rattle.rules.specs.Values.{ticks_of, dotted, beats256}
use Rattle.rules.specs.Refusals.{bad_code, bad_dots}
use Rattle.rules.specs.Calls.{beats_call}
use Rattle.duration.specs.Calls.{code_of, fraction_of, coded_call, Exactly}
use Rattle.duration.specs.declared.Fraction.{Fraction}
use Rattle.duration.specs.declared.Duration.{Duration}
use Rattle.duration.specs.declared.Duration.TheVariants.{Longa, Breve, Whole, Half, Quarter, Eighth, Sixteenth}
use Rattle.duration.specs.declared.Duration.TheVariants.{ThirtySecond, SixtyFourth, HundredTwentyEighth}

-- ---- a test at each value

at : (n : ℕ) (f : ℕ → Bool) → T (below n f) → (k : ℕ) → k < n → T (f k)
unfolding below
at zero f t k h = absurd (not-suc-le-zero h)
at (suc n) f t k h =
    ⊎_elim (λ e. rw e (and_r (below n f) (f n) t)) (λ l. at n f (and_l (below n f) (f n) t) k l) (eq-or-lt_of_le (le_of_suc-le-suc h))

code_small : (d : Duration) → code_of d < 10
code_small Longa = lit< tt
code_small Breve = lit< tt
code_small Whole = lit< tt
code_small Half = lit< tt
code_small Quarter = lit< tt
code_small Eighth = lit< tt
code_small Sixteenth = lit< tt
code_small ThirtySecond = lit< tt
code_small SixtyFourth = lit< tt
code_small HundredTwentyEighth = lit< tt

each : (f : ℕ → Bool) → T (below 10 f) → (d : Duration) → T (f (code_of d))
each f t d = at 10 f t (code_of d) (code_small d)

-- ---- fractions

fraction_ratio : (d : Duration) → (fraction_of (code_of d)).num * 2 ^ code_of d ≡ 4 * (fraction_of (code_of d)).den
unfolding below
fraction_ratio d = eqb→eq _ _ (each (λ c. eqb ((fraction_of c).num * 2 ^ c) (4 * (fraction_of c).den)) tt d)

fraction_positive : (d : Duration) → 0 < (fraction_of (code_of d)).den
unfolding below
fraction_positive d = leb→le _ _ (each (λ c. leb 1 (fraction_of c).den) tt d)

pub num_small : (d : Duration) (f : Fraction) → f ≡ fraction_of (code_of d) → f.num ≤ 4
unfolding below
num_small d f e = rw e (leb→le _ _ (each (λ c. leb (fraction_of c).num 4) tt d))

pub fraction_at : (k : Duration) {d : Duration} → d ≡ k
    → (fraction_of (code_of k) ≡ fraction_of (code_of d))
    × ((0 < (fraction_of (code_of k)).den) × ((fraction_of (code_of k)).num * 2 ^ code_of d ≡ 4 * (fraction_of (code_of k)).den))
fraction_at k e = rw e (refl, (fraction_positive k, fraction_ratio k))

-- ---- refusals

pub given_code : {code : ℕ} (k : ℕ) → code ≡ k → T (leb k 9) → given k ≡ coded_call code
unfolding unless
given_code k e t = rw e (rw (le-ltb 9 k (leb→le k 9 t)))

pub refused_code : (code : ℕ) → 10 ≤ code → refused 10 ≡ coded_call code
unfolding unless
refused_code code p = rw (lt-ltb 9 code (omega arith))

pub passed : {A : Type 0} (a : A) (d : Duration) (dots : ℕ) → dots ≤ 3 → unless (bad_code (code_of d) ∷ bad_dots dots ∷ []) a ≡ given a
unfolding unless
passed a d dots h = rw (le-ltb 9 (code_of d) (le_of_suc-le-suc (code_small d)), le-ltb 3 dots h)

pub stopped : {A : Type 0} (a : A) (d : Duration) (dots : ℕ) → 3 < dots → unless (bad_code (code_of d) ∷ bad_dots dots ∷ []) a ≡ refused 10
unfolding unless
stopped a d dots h = rw (le-ltb 9 (code_of d) (le_of_suc-le-suc (code_small d)), lt-ltb 3 dots h)

pub same_code : (d : Duration) (code : ℕ) → given (code_of d) ≡ coded_call code → code_of d ≡ code
unfolding unless
same_code d code e = go (ltb 9 code) e
  where
    go : (b : Bool) → given (code_of d) ≡ cond b (refused 10) (given code) → code_of d ≡ code
    go true e = cc
    go false e = cc

pub out_of_range : (r code dots : ℕ) → refused r ≡ coded_call code → Exactly (beats_call code dots) (refused r)
unfolding unless
out_of_range r code dots e = go (ltb 9 code) e
  where
    go : (b : Bool) → refused r ≡ cond b (refused 10) (given code)
        → Exactly (cond b (refused 10) (unless (bad_dots dots ∷ []) (beats256 code dots))) (refused r)
    go true e = cc
    go false e = absurd (let z : ◌≡◌ {A = ℕ} 0 1 = cc in omega arith)

-- ---- ticks

-- the sum of k numbers from v on, each half of the one before it
pub halves : ℕ → ℕ → ℕ
halves zero v = 0
halves (suc k) v = v + halves k (v / 2)

dotted_halves : (n b : ℕ) → b + halves n (b / 2) ≡ dotted n b
unfolding dotted halves
dotted_halves zero b = omega arith
dotted_halves (suc n) b = ap (λ (m : ℕ). b + m) (dotted_halves n (b / 2))

pub halves_all : (n b : ℕ) → b + halves (n - 0) (b / 2) ≡ dotted n b
halves_all n b = let e : n - 0 ≡ n = omega arith in rw e (dotted_halves n b)

pub halves_on : (n i v : ℕ) → i < n → v + halves (n - (i + 1)) (v / 2) ≡ halves (n - i) v
unfolding halves
halves_on n i v h = let e : n - i ≡ suc (n - (i + 1)) = omega arith in rw e

pub halves_none : (n i v : ℕ) → n ≤ i → halves (n - i) v ≡ 0
unfolding halves
halves_none n i v h = let e : n - i ≡ 0 = omega arith in rw e

pub base_ticks : (d : Duration) (f : Fraction) → f ≡ fraction_of (code_of d) → 1920 * f.num / f.den ≡ ticks_of 480 (code_of d) 0
unfolding below
base_ticks d f e = rw e (eqb→eq _ _ (each (λ c. eqb (1920 * (fraction_of c).num / (fraction_of c).den) (ticks_of 480 c 0)) tt d))

pub base_small : (d : Duration) → ticks_of 480 (code_of d) 0 ≤ 7680
unfolding below
base_small d = leb→le _ _ (each (λ c. leb (ticks_of 480 c 0) 7680) tt d)

-- ---- beats

-- the base, as the code works it out
based : (d : Duration)
    → Is256
    (div binary64 (mul binary64 (fin false 1 (pos 2)) (of_int binary64 (pos (fraction_of (code_of d)).num)))
    (of_int binary64 (pos (fraction_of (code_of d)).den)))
    (beats256 (code_of d) 0)
unfolding div mul of_int round
based Longa = (refl, refl)
based Breve = (refl, refl)
based Whole = (refl, refl)
based Half = (refl, refl)
based Quarter = (refl, refl)
based Eighth = (refl, refl)
based Sixteenth = (refl, refl)
based ThirtySecond = (refl, refl)
based SixtyFourth = (refl, refl)
based HundredTwentyEighth = (refl, refl)

pub base_exact : (d : Duration) (f : Fraction) → f ≡ fraction_of (code_of d)
    → Is256 (div binary64 (mul binary64 (fin false 1 (pos 2)) (of_int binary64 (pos f.num))) (of_int binary64 (pos f.den))) (beats256 (code_of d) 0)
base_exact d f e = rw e (based d)

pub beats_small : (d : Duration) → beats256 (code_of d) 0 ≤ 4096
unfolding below
beats_small d = leb→le _ _ (each (λ c. leb (beats256 c 0) 4096) tt d)

-- After i dots, from a base of n 256ths: the total, and the dot to come.
pub record Summed (n i : ℕ) (total dot : Float) : Type 0 where
  pub sum : HasValue total false (n * (2 ^ (i + 1) - 1)) (2 ^ (8 + i))
  pub next : HasValue dot false n (2 ^ (9 + i))

pub summed_none : (n : ℕ) (x : Float) → n ≤ 4096 → Is256 x n → Summed n 0 x (div binary64 x (fin false 1 (pos 1)))
summed_none n x h v = record { sum = rw mul-one v; next = half 8 x n (lit< tt) v (omega arith) }

twice : (n p : ℕ) → 0 < p → n * (p - 1) * 2 + n ≡ n * (p * 2 - 1)
twice n p h =
    let e : p * 2 - 1 ≡ (p - 1) * 2 + 1 = omega arith in
    rw e (ap (λ (m : ℕ). m + n) (mul_assoc n (p - 1) 2) ∙ sym (mul-add n ((p - 1) * 2) 1 ∙ ap (λ (m : ℕ). n * ((p - 1) * 2) + m) (mul-one n)))

finer : (a k : ℕ) → a * 2 * 2 ^ k ≡ a * 2 ^ (k + 1)
finer a k = mul_assoc a 2 (2 ^ k) ∙ ap (λ (m : ℕ). a * m) (mul_comm 2 (2 ^ k) ∙ sym (pow-add 2 k 1))

-- one dot more
pub summed_on : (n i : ℕ) (t d : Float) → n ≤ 4096 → i < 3 → Summed n i t d → Summed n (i + 1) (add binary64 t d) (div binary64 d (fin false 1 (pos 1)))
summed_on n i t d hn hi s =
    let a = n * (2 ^ (i + 1) - 1) in
    let e : 8 + (i + 1) ≡ 8 + i + 1 = omega arith in
    let e₉ : 9 + i ≡ 8 + i + 1 = omega arith in
    let e₁₀ : 9 + (i + 1) ≡ 9 + i + 1 = omega arith in
    let more : n * (2 ^ (i + 1 + 1) - 1) ≡ a * 2 + n = ap (λ (m : ℕ). n * (m - 1)) (pow-add 2 (i + 1) 1) ∙ sym (twice n (2 ^ (i + 1)) (pow_pos (i + 1))) in
    let hp : 2 ^ (i + 1) ≤ 8 = pow_mono {j = 3} (omega arith) in
    let ha : a ≤ 4096 * 7 = mul-le-mul {n₂ = 4096} {m₂ = 7} hn (omega arith) in
    let total = rescale t false a (2 ^ (8 + i)) (a * 2) (2 ^ (8 + i + 1)) (pow_pos (8 + i)) (finer a (8 + i)) s.sum in
    record {
      sum = rw (e, more) (add_exact (8 + i + 1) t d (a * 2) n (omega arith) total (rw e₉ at s.next) (omega arith));
      next = rw e₁₀ (half (9 + i) d n (omega arith) s.next (omega arith));
    }

right : ℕ → ℕ → Bool
right c i = eqb (beats256 c i * 2 ^ (8 + i)) (beats256 c 0 * (2 ^ (i + 1) - 1) * 256)

summed_all : (d : Duration) (dots : ℕ) (t x : Float) → dots ≤ 3 → Summed (beats256 (code_of d) 0) dots t x → Is256 t (beats256 (code_of d) dots)
unfolding below right
summed_all d dots t x h s =
    rescale t false (beats256 (code_of d) 0 * (2 ^ (dots + 1) - 1)) (2 ^ (8 + dots)) (beats256 (code_of d) dots) 256 (pow_pos (8 + dots))
    (eqb→eq _ _ (at 4 (right (code_of d)) (each (λ c. below 4 (right c)) tt d) dots (omega arith)))
    s.sum

pub given_beats : (d : Duration) (dots : ℕ) (t x : Float) → dots ≤ 3 → Summed (beats256 (code_of d) 0) dots t x → Exactly (beats_call (code_of d) dots) (given t)
given_beats d dots t x h s = rw (passed (beats256 (code_of d) dots) d dots h) (summed_all d dots t x h s)

pub refused_beats : (d : Duration) (dots : ℕ) → 3 < dots → Exactly (beats_call (code_of d) dots) (refused 10)
refused_beats d dots h = rw (stopped (beats256 (code_of d) dots) d dots h) refl
