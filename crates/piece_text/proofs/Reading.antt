-- One number more in an array; one byte more of a reading.
use Prim.Native.Nat.{ℕ, ◌+◌, ◌≤◌, ◌<◌}
use mathlib.Core.List.{List, [], ◌∷◌, ◌++◌}
use mathlib.Core.Path.{◌≡◌, refl, sym, ap, ◌∙◌}
use native.Mathlib.Numerals.{add-one}
use native.Mathlib.Omega.{arith}
use lib.ListN.{length, take, set, get_or, length-append, length-set}
use lib.Seq.{take_all, take-suc, take-suc-set, take-append-le, take-nil}
use Rattle.piece_text.specs.Held.{most_counted, Counted, Held}
use Rattle.piece_text.specs.Text.{Reading, stepped, read_on}

module _ (l xs : List ℕ) (n v : ℕ) (h : Held l n xs) where
  more : List ℕ
  more = l ++ (v ∷ [])

  longer : length (l ++ (v ∷ [])) ≡ length l + 1
  longer = length-append l (v ∷ [])

  counted_more : n < most_counted → Counted (n + 1) (length (l ++ (v ∷ [])))
  counted_more b = record { within = omega (arith, longer, h.counted.within); exact = λ _. omega (arith, longer, h.counted.exact b) }

  pub held_stored : n < most_counted → n < length xs → Held (l ++ (v ∷ [])) (n + 1) (set xs n v)
  held_stored b lt =
      let e : n ≡ length l = h.counted.exact b in
      let front : take n xs ≡ l = h.start ∙ ap (take (length xs)) (take_all n l (omega arith)) ∙ take_all (length xs) l (omega arith) in
      let left : take (n + 1) (set xs n v) ≡ l ++ (v ∷ []) = rw (add-one, take-suc-set xs n v lt, front) in
      let whole : take (n + 1) (l ++ (v ∷ [])) ≡ l ++ (v ∷ []) = take_all (n + 1) (l ++ (v ∷ [])) (omega (arith, longer)) in
      record {
        counted = counted_more b;
        start = left ∙ sym (ap (take (length (set xs n v))) whole ∙ take_all (length (set xs n v)) (l ++ (v ∷ [])) (omega (arith, longer, length-set xs n v)));
      }

  pub held_counted : n < most_counted → length xs ≤ n → Held (l ++ (v ∷ [])) (n + 1) xs
  held_counted b le =
      let e : n ≡ length l = h.counted.exact b in
      let whole : take (n + 1) (l ++ (v ∷ [])) ≡ l ++ (v ∷ []) = take_all (n + 1) (l ++ (v ∷ [])) (omega (arith, longer)) in
      let all : take (n + 1) xs ≡ take n xs = take_all (n + 1) xs (omega arith) ∙ sym (take_all n xs le) in
      record {
        counted = counted_more b;
        start =
            all ∙ h.start ∙ ap (take (length xs)) (take_all n l (omega arith))
            ∙ sym (ap (take (length xs)) whole ∙ take-append-le (length xs) l (v ∷ []) (omega arith));
      }

  pub held_full : most_counted ≤ n → Held (l ++ (v ∷ [])) n xs
  held_full b =
      record {
        counted = record { within = omega (arith, longer, h.counted.within); exact = λ k. absurd (omega (arith, k)) };
        start = h.start ∙ ap (take (length xs)) (sym (take-append-le n l (v ∷ []) h.counted.within));
      }

-- one byte more
pub read_snoc : (a : Reading) (bs : List ℕ) (b : ℕ) → read_on a (bs ++ (b ∷ [])) ≡ stepped (read_on a bs) b
unfolding read_on
read_snoc a [] b = refl
read_snoc a (x ∷ bs) b = read_snoc (stepped a x) bs b

pub read_one : (a : Reading) (bs : List ℕ) (i : ℕ) → i < length bs → read_on a (take (i + 1) bs) ≡ stepped (read_on a (take i bs)) (get_or bs i 0)
read_one a bs i h = rw (add-one, take-suc bs i 0 h) (read_snoc a (take i bs) (get_or bs i 0))

pub none_held : (xs : List ℕ) → Held [] 0 xs
none_held xs = record { counted = record { within = omega arith; exact = λ _. refl }; start = sym (take-nil (length xs)) }
