-- Counts that stop at 2^50 decide whether a length is a piece's event count.
use Prim.Native.Nat.{ℕ, suc, ◌^◌, ◌≤◌, ◌<◌}
use mathlib.Core.List.{List, [], ◌∷◌}
use mathlib.Core.Path.{◌≡◌, sym, ap, ◌∙◌}
use native.Mathlib.Omega.{arith}
use lib.ListN.{length, get_or, take, drop, length-drop}
use lib.Seq.{take_all}
use Rattle.rules.specs.Lists.{sum, All}
use Rattle.laws.proofs.Lists.{All-drop}
use Rattle.laws.proofs.Loops.{sum_all}
use Rattle.rules.specs.Piece.{Piece, piece}
use Rattle.rules.specs.Refusals.{first_number, piece_refusals}
use Rattle.admission.proofs.Numbers.{disagrees, number_one}
use Rattle.piece_text.specs.Held.{most_counted, Counted, Held}

module _ {n len : ℕ} (k : Counted n len) (s : ℕ) (b : s < most_counted) where
  pub same_count : n ≡ s → len ≡ s
  same_count e = omega (arith, k.exact (omega arith))

  pub other_count : (n ≡ s → ⊥) → len ≡ s → ⊥
  other_count d e =
      let w = k.within in
      d (omega (arith, k.exact (omega arith)))

-- the event counts, each of 32 bits, make less than 2^50
all_of : (k : ℕ) (xs : List ℕ) → ((i : ℕ) → get_or xs i 0 ≤ k) → All (λ n. n ≤ k) xs
all_of k [] h = tt
all_of k (x ∷ xs) h = (h 0, all_of k xs (λ i. h (suc i)))

pub small_sum : (x : List ℕ) → ((i : ℕ) → get_or x i 0 < 2 ^ 32) → length x ≤ 65537 → sum (drop 2 x) < most_counted
small_sum x h n =
    let all = sum_all 4294967295 (drop 2 x) (All-drop _ 2 x (all_of 4294967295 x (λ i. omega (arith, h i)))) in
    omega (arith, all, length-drop 2 x)

-- an array with room for all holds the whole list
pub held_whole : (l : List ℕ) (n : ℕ) (xs : List ℕ) → Held l n xs → n ≤ length xs → n < most_counted → l ≡ take n xs
held_whole l n xs h fits b =
    let e : n ≡ length l = h.counted.exact b in
    sym (h.start ∙ ap (take (length xs)) (take_all n l (omega arith)) ∙ take_all (length xs) l (omega arith))

-- more sizes than a piece can have
pub too_many_sizes : (x : Piece) → 65537 < length x.sizes → first_number (piece_refusals x) ≡ 1
too_many_sizes x h = number_one x (disagrees x (λ a. omega (arith, a.sizes, a.tracks)))

pub whole_piece : (x : Piece) (ss ds ws : List ℕ) → x.sizes ≡ ss → x.deltas ≡ ds → x.words ≡ ws → x ≡ piece ss ds ws
whole_piece x ss ds ws e f g = rw (sym e, sym f, sym g)
