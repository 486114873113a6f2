-- Texts put behind one another, and digits as decimals.
use Prim.Native.Nat.{ℕ, zero, suc, ◌+◌, ◌-◌, ◌*◌, ◌/◌, ◌%◌, ◌^◌, ◌≤◌, ◌<◌}
use mathlib.Core.Logic.{inl, inr}
use mathlib.Core.List.{List, [], ◌∷◌, ◌++◌, append_assoc}
use mathlib.Core.Path.{◌≡◌, ap, ◌∙◌}
use native.Mathlib.Nat.{pow-suc, pow-le-pow_right, one-le-pow, mod-eq_of_lt}
use native.Mathlib.Numerals.{add-one, unary_clauses}
use native.Mathlib.Omega.{arith}
use borrow.Author.Tests.{lt-ltb, le-ltb}
use lib.ListN.{length, set, take}
use lib.Seq.{take-suc-set}
use Rattle.line_text.specs.Text.{decimal_in, decimal, Adds}
use Rattle.io.specs.Digits.{last_digits, IsDigitCount}
use Rattle.laws.proofs.Order.{by_le}

-- ---- texts

pub adds_one : (b at : ℕ) (o : List ℕ) → at < length o → Adds 1 (b ∷ []) at o (at + 1) (set o at b)
adds_one b at o h = record { text = rw (add-one, take-suc-set o at b h); grown = omega arith }

module _ {m n at a r : ℕ} {xs ys o p q : List ℕ} where
  -- one text behind another
  pub adds_both : Adds m xs at o a p → Adds n ys a p r q → Adds (m + n) (xs ++ ys) at o r q
  adds_both f g =
      record { text = g.text ∙ ap (λ l. l ++ ys) f.text ∙ append_assoc (take at o) xs ys; grown = omega (arith, f.grown, g.grown) }

-- and so many at most
pub adds_most : {m n at r : ℕ} {xs o q : List ℕ} → m ≤ n → Adds m xs at o r q → Adds n xs at o r q
adds_most h f = record { text = f.text; grown = omega (arith, f.grown) }

-- ---- decimals

module _ (n k : ℕ) (h : IsDigitCount 10 1 n k) where
  pub most_digits : n < 2 ^ 64 → k ≤ 20
  most_digits b =
      elim (by_le k 20) [
        | inl l ↦ l
        | inr l ↦
            let big : 10 ^ 20 ≤ 10 ^ (k - 1) = pow-le-pow_right {n = 10} (omega arith) {i = 20} {j = k - 1} (omega arith) in
            absurd (omega (arith, h.2 (omega arith), big))
      ]

digits_in : (f k n : ℕ) → k ≤ f → IsDigitCount 10 1 n k → last_digits 10 k n ≡ decimal_in f n
unfolding decimal_in
digits_in f zero n l h = absurd (omega (arith, h.0))
digits_in zero (suc k) n l h = absurd (omega arith)
digits_in (suc f) (suc zero) n l h =
    let small : n < 10 = h.1 in
    rw (mod-eq_of_lt {n = n} {m = 10} small, lt-ltb n 10 small)
digits_in (suc f) (suc (suc k)) n l h =
    let e : 10 ^ suc (suc k) ≡ 10 ^ suc k * 10 = pow-suc 10 (suc k) in
    let s : 10 ^ suc k ≡ 10 ^ k * 10 = pow-suc 10 k in
    let low : 10 ^ k * 10 ≤ n = simp unary_clauses at (h.2 (omega arith)) in
    let some : 1 ≤ 10 ^ k = one-le-pow k 10 (omega arith) in
    let rest : last_digits 10 (suc k) (n / 10) ≡ decimal_in f (n / 10) =
    digits_in f (suc k) (n / 10) (omega arith) (omega arith, omega (arith, h.1, e), λ _. simp unary_clauses (omega arith)) in
    rw (lt-ltb (n % 10) 10 (omega arith), le-ltb n 10 (omega arith), rest)

pub digits_decimal : (n k : ℕ) → n < 2 ^ 64 → IsDigitCount 10 1 n k → last_digits 10 k n ≡ decimal n
unfolding decimal
digits_decimal n k b h = digits_in 20 k n (most_digits n k h b) h

pub adds_eq : {m at r : ℕ} {xs ys o q : List ℕ} → xs ≡ ys → Adds m xs at o r q → Adds m ys at o r q
adds_eq {at = at} {o = o} e a = record { text = a.text ∙ ap (λ l. take at o ++ l) e; grown = a.grown }
