-- Outputs that a loop writes from the front: what is written, what is still to come, and what stood there before.
use Prim.Native.Nat.{ℕ, suc, ◌+◌, ◌≤◌, ◌<◌, zero-le}
use mathlib.Core.List.{List, [], ◌∷◌, ◌++◌, append-nil}
use mathlib.Core.Path.{◌≡◌, refl, sym, ap, ◌∙◌}
use native.Mathlib.Numerals.{add-one}
use native.Mathlib.Omega.{arith}
use lib.ListN.{length, get_or, set, take, drop, take-append-drop, length-append, length-set}
use lib.Seq.{take-suc-set, drop-set-lt, length-take-le, append_snoc, drop-drop, drop-cons, set_at}
use Rattle.rules.specs.Lists.{written}

-- n of all are written to l, which was l₀; those coming are left to write
pub record Filling (all coming : List ℕ) (n : ℕ) (l₀ l : List ℕ) : Type 0 where
  pub within : n ≤ length l
  pub kept : length l ≡ length l₀
  pub parts : take n l ++ coming ≡ all
  pub rest : drop n l ≡ drop n l₀

pub filling_start : (all l : List ℕ) → Filling all all 0 l l
filling_start all l = record { within = zero-le; kept = refl; parts = refl; rest = refl }

module _ {all : List ℕ} {n : ℕ} {l₀ l : List ℕ} where
  pub filling_count : {coming : List ℕ} → Filling all coming n l₀ l → n + length coming ≡ length all
  filling_count {coming} p =
      omega (arith, simp length-append at (ap length p.parts), length-take-le n l p.within)

  pub filling_more : {coming : List ℕ} (v : ℕ) → n < length l → Filling all (v ∷ coming) n l₀ l → Filling all coming (n + 1) l₀ (set l n v)
  filling_more {coming} v h p =
      record {
        within = simp length-set (omega arith);
        kept = simp length-set p.kept;
        parts = rw (add-one, take-suc-set l n v h, append_snoc) p.parts;
        rest = drop-set-lt (n + 1) l n v (omega arith) ∙ sym (drop-drop 1 n l) ∙ ap (drop 1) p.rest ∙ drop-drop 1 n l₀;
      }

  pub filling_end : Filling all [] n l₀ l → l ≡ written all l₀
  filling_end p =
      let front : take n l ≡ all = rw append-nil at p.parts in
      let count : length all ≡ n = ap length (sym front) ∙ length-take-le n l p.within in
      sym (take-append-drop n l) ∙ rw (front, count, p.rest)

-- xs is what was written to l, which was l₀, n elements
pub record Wrote (xs : List ℕ) (n : ℕ) (l₀ l : List ℕ) : Type 0 where
  pub count : length xs ≡ n
  pub kept : length l ≡ length l₀
  pub is : l ≡ xs ++ drop n l₀

pub wrote_none : (l : List ℕ) → Wrote [] 0 l l
wrote_none l = record { count = refl; kept = refl; is = refl }

pub wrote_more : {xs : List ℕ} {n : ℕ} {l₀ l : List ℕ} (v : ℕ) → n < length l → Wrote xs n l₀ l → Wrote (xs ++ (v ∷ [])) (n + 1) l₀ (set l n v)
wrote_more {xs} {n} {l₀} {l} v h p =
    let inside : n < length l₀ = omega (arith, p.kept) in
    record {
      count = rw (length-append, p.count);
      kept = simp length-set p.kept;
      is = rw (p.is, drop-cons l₀ n 0 inside, set_at xs (get_or l₀ n 0) (drop (suc n) l₀) v n p.count, append_snoc, add-one);
    }
