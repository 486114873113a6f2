-- Parts of a work area: their elements, what a store leaves of them, and what a loan of the area's middle or front does.
-- A loan `&mut w[a..e]` comes back as `put_mid a (e - a) w x`, a loan `&mut w[..n]` as `x ++ drop n w`.
use Prim.Native.Nat.{ℕ, ◌+◌, ◌-◌, ◌≤◌, ◌<◌}
use mathlib.Core.List.{List, ◌++◌, append-nil}
use native.Mathlib.Nat.{add-zero}
use mathlib.Core.Path.{◌≡◌, sym, ap, ◌∙◌}
use native.Mathlib.Omega.{arith}
use borrow.Rule.Slice.PartMut.{put_mid}
use lib.ListN.{length, get_or, set, take, drop, length-drop, take-append-drop}
use lib.Seq.{get_or-take, get_or-drop, take-set-lt, take-set-le, drop-set-add, drop-set-lt, drop-drop, drop-length}
use lib.Seq.{take-append-le, drop-append-le, take_at, take_all, length-take-le, drop-append-add}
use Rattle.laws.specs.Parts.{part}

module _ {A : Type 0} where
  pub part_length : (a n : ℕ) (w : List A) → a + n ≤ length w → length (part a n w) ≡ n
  part_length a n w h = length-take-le n (drop a w) (simp length-drop (omega arith))

  pub part_get : (a n : ℕ) (w : List A) (i : ℕ) (d : A) → i < n → get_or (part a n w) i d ≡ get_or w (a + i) d
  part_get a n w i d h = get_or-take n (drop a w) i d h ∙ get_or-drop a w i d

  pub part_set : (a n : ℕ) (w : List A) (i : ℕ) (v : A) → i < n → part a n (set w (a + i) v) ≡ set (part a n w) i v
  part_set a n w i v h = rw drop-set-add (take-set-lt n (drop a w) i v h)

  pub part_set_before : (a n : ℕ) (w : List A) (j : ℕ) (v : A) → j < a → part a n (set w j v) ≡ part a n w
  part_set_before a n w j v h = ap (take n) (drop-set-lt a w j v h)

  pub part_set_after : (a n : ℕ) (w : List A) (j : ℕ) (v : A) → a + n ≤ j → part a n (set w j v) ≡ part a n w
  part_set_after a n w j v h =
      let e : j ≡ a + (j - a) = omega arith in
      ap (λ (k : ℕ). part a n (set w k v)) e ∙ rw drop-set-add (take-set-le n (drop a w) (j - a) v (omega arith))

  -- a part of the first of two lists, and of the second
  pub part_left : (xs ys : List A) (b n : ℕ) → b + n ≤ length xs → part b n (xs ++ ys) ≡ part b n xs
  part_left xs ys b n h = rw (drop-append-le b xs ys (omega arith)) (take-append-le n (drop b xs) ys (simp length-drop (omega arith)))

  pub drop_right : (xs ys : List A) (b i : ℕ) → length xs ≡ b → drop (b + i) (xs ++ ys) ≡ drop i ys
  drop_right xs ys b i e = rw (← e) (drop-append-add xs ys i)

  -- all places from a on are lent, `&mut w[a..]`
  pub put_rest : (a : ℕ) (w x : List A) → a ≤ length w → put_mid a (length w - a) w x ≡ take a w ++ x
  put_rest a w x h =
      let e : a + (length w - a) ≡ length w = omega arith in
      rw (drop-drop, e, drop-length, append-nil)

  -- k places from a on are lent, and come back as x
  module _ (a k : ℕ) (w x : List A) (l : length x ≡ k) (fits : a + k ≤ length w) where
    front : length (take a w) ≡ a
    front = length-take-le a w (omega arith)

    inside : (i : ℕ) → drop (a + i) (put_mid a k w x) ≡ drop i (x ++ drop k (drop a w))
    inside i = drop_right (take a w) (x ++ drop k (drop a w)) a i front

    pub put_before : (b n : ℕ) → b + n ≤ a → part b n (put_mid a k w x) ≡ part b n w
    put_before b n h =
        let h' : b + n ≤ length (take a w) = omega (arith, front) in
        part_left (take a w) (x ++ drop k (drop a w)) b n h' ∙ sym (part_left (take a w) (drop a w) b n h') ∙ ap (part b n) (take-append-drop a w)

    -- n places from i on of what came back
    pub put_in : (i n : ℕ) → i + n ≤ k → part (a + i) n (put_mid a k w x) ≡ part i n x
    put_in i n h = ap (take n) (inside i) ∙ part_left x (drop k (drop a w)) i n (omega arith)

    pub put_here : part a k (put_mid a k w x) ≡ x
    put_here = rw add-zero at (put_in 0 k (omega arith)) ∙ take_all k x (omega arith)

    -- what lies from b on, behind the loan
    pub put_tail : (b : ℕ) → a + k ≤ b → drop b (put_mid a k w x) ≡ drop b w
    put_tail b h =
        let e : b ≡ a + (k + (b - (a + k))) = omega arith in
        rw (e, inside, drop_right x (drop k (drop a w)) k (b - (a + k)) l, drop-drop (b - (a + k)) k (drop a w), drop-drop)

    pub put_after : (b n : ℕ) → a + k ≤ b → part b n (put_mid a k w x) ≡ part b n w
    put_after b n h = ap (take n) (put_tail b h)

  -- the first n places are lent, and come back as x
  module _ (n : ℕ) (w x : List A) (l : length x ≡ n) where
    pub front_here : part 0 n (x ++ drop n w) ≡ x
    front_here = take_at x (drop n w) n l

    pub front_in : (i m : ℕ) → i + m ≤ n → part i m (x ++ drop n w) ≡ part i m x
    front_in i m h = part_left x (drop n w) i m (omega arith)

    pub front_tail : (b : ℕ) → n ≤ b → drop b (x ++ drop n w) ≡ drop b w
    front_tail b h = let e : b ≡ n + (b - n) = omega arith in rw (e, drop_right x (drop n w) n (b - n) l, drop-drop)

    pub front_after : (b m : ℕ) → n ≤ b → part b m (x ++ drop n w) ≡ part b m w
    front_after b m h = ap (take m) (front_tail b h)
