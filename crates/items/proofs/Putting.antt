-- What is put to an output behind what was put before it; outputs keep their lengths.
use Prim.Native.Nat.{ℕ, suc, ◌+◌, ◌-◌, ◌*◌, ◌≤◌, ◌<◌}
use mathlib.Core.Bool.{Bool, true, false}
use mathlib.Core.List.{List, [], ◌++◌, append_assoc, flatten}
use mathlib.Core.Path.{◌≡◌, refl, sym, ap, ◌∙◌}
use native.Mathlib.Omega.{arith}
use lib.ListN.{length, set, take, drop, length-append, length-drop, length-set, take-append-drop}
use lib.Seq.{length-take-le, take_at, drop_at, drop-drop}
use Rattle.rules.specs.Lists.{written}
use Rattle.laws.proofs.Filling.{Filling, filling_more, filling_end}
use Rattle.items.specs.Putting.{put_at, Put}
use Rattle.items.specs.Writing.{pairs}

-- ---- always

-- as what stands before, what is put, and what stands behind
pub put_parts : (xs : List ℕ) (f : ℕ) (l : List ℕ) → put_at xs f l ≡ take f l ++ xs ++ drop (f + length xs) l
put_parts xs f l = sym (append_assoc (take f l) xs (drop (length xs) (drop f l))) ∙ rw drop-drop

module _ (xs : List ℕ) (f : ℕ) (l : List ℕ) (fits : f + length xs ≤ length l) where
  front : length (take f l ++ xs) ≡ f + length xs
  front = rw (length-append, length-take-le f l (omega arith))

  at_length : length (put_at xs f l) ≡ length l
  at_length = rw (put_parts, length-append, front, length-drop) (omega arith)

  at_append : (ys : List ℕ) → put_at ys (f + length xs) (put_at xs f l) ≡ put_at (xs ++ ys) f l
  at_append ys =
      let rest : List ℕ = drop (f + length xs) l in
      rw (put_parts xs f l)
      (ap (λ (a : List ℕ). a ++ written ys (drop (f + length xs) (take f l ++ xs ++ rest))) (take_at (take f l ++ xs) rest (f + length xs) front)
      ∙ ap (λ (b : List ℕ). take f l ++ xs ++ written ys b) (drop_at (take f l ++ xs) rest (f + length xs) front)
      ∙ append_assoc (take f l) xs (ys ++ drop (length ys) rest)
      ∙ ap (λ (b : List ℕ). take f l ++ b) (sym (append_assoc xs ys (drop (length ys) rest)) ∙ rw (drop-drop, drop-drop, length-append) (rw add_shift)))
    where
      add_shift : f + length xs + length ys ≡ f + (length xs + length ys)
      add_shift = omega arith

-- ---- where it is written

pub put_none : (w : Bool) (f : ℕ) (l : List ℕ) → Put w [] f l l
put_none true f l = record { is = sym (take-append-drop f l) }
put_none false f l = record { is = refl }

module _ {xs : List ℕ} {f : ℕ} {l₀ l₁ : List ℕ} where
  pub put_length : (w : Bool) → (w ≡ true → f + length xs ≤ length l₀) → Put w xs f l₀ l₁ → length l₁ ≡ length l₀
  put_length true fits a = ap length a.is ∙ at_length xs f l₀ (fits refl)
  put_length false fits a = ap length a.is

  pub put_append : (w : Bool) {ys l₂ : List ℕ} → (w ≡ true → f + length xs ≤ length l₀) → Put w xs f l₀ l₁ → Put w ys (f + length xs) l₁ l₂
      → Put w (xs ++ ys) f l₀ l₂
  put_append true {ys} fits a b = record { is = b.is ∙ ap (put_at ys (f + length xs)) a.is ∙ at_append xs f l₀ (fits refl) ys }
  put_append false fits a b = record { is = b.is ∙ a.is }

-- ---- by a loop

pub filling_at : (xs : List ℕ) (f : ℕ) (l : List ℕ) → f ≤ length l → Filling (take f l ++ xs) xs f l l
filling_at xs f l h = record { within = h; kept = refl; parts = refl; rest = refl }

pub filling_put : (xs : List ℕ) (f : ℕ) {n : ℕ} {l₀ l : List ℕ} → f ≤ length l₀ → Filling (take f l₀ ++ xs) [] n l₀ l → l ≡ put_at xs f l₀
filling_put xs f {n} {l₀} h p =
    filling_end p ∙ rw (length-append, length-take-le f l₀ h) (sym (put_parts xs f l₀))

-- the two words of one item more
pub pairs_more : {all : List ℕ} {l₀ l : List ℕ} (low high : ℕ) {i to : ℕ} → i < to → 2 * to ≤ length l → Filling all (pairs low high (to - i)) (2 * i) l₀ l
    → Filling all (pairs low high (to - (i + 1))) (2 * (i + 1)) l₀ (set (set l (2 * i) low) (2 * i + 1) high)
unfolding flatten
pairs_more {all} {l₀} {l} low high {i} {to} h room p =
    let one : to - i ≡ suc (to - (i + 1)) = omega arith in
    let next : 2 * (i + 1) ≡ 2 * i + 1 + 1 = omega arith in
    rw next (filling_more high (simp length-set (omega arith)) (filling_more low (omega arith) (rw one at p)))

pub pairs_end : {all : List ℕ} {l₀ l : List ℕ} (low high : ℕ) {i to n : ℕ} → to ≤ i → Filling all (pairs low high (to - i)) n l₀ l → Filling all [] n l₀ l
unfolding flatten
pairs_end low high {i} {to} h p = let none : to - i ≡ 0 = omega arith in rw none at p
