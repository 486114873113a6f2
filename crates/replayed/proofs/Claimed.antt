-- The claims of specs/Claims.antt.
use Prim.Native.Nat.{ℕ, suc, ◌+◌, ◌-◌, ◌^◌, ◌≤◌, ◌<◌}
use mathlib.Core.Bool.{Bool, true, false, cond}
use mathlib.Core.List.{List, [], ◌∷◌, ◌++◌}
use mathlib.Core.Path.{◌≡◌, refl, ap}
use native.Mathlib.Omega.{arith}
use borrow.Author.Tests.{eqb-true, eq-eqb}
use lib.Dec.{eqb}
use lib.ListN.{length}
use Rattle.std.specs.Prelude.{Some, None}
use Rattle.rules.specs.Lists.{All}
use Rattle.replayed.specs.Claims.{ChunksAgree, DigitsRead, NothingIsEqual, EqualIsNothing}
use Rattle.replayed.specs.Decimals.{digit, gap, shifted, stepped, ended, scanned, decimal}
use Rattle.replayed.specs.Differences.{difference}
use Rattle.replayed.specs.declared.Scanned.{Scanned}
use Rattle.replayed.specs.declared.Scanned.TheVariants.{Inside, Number}
use Rattle.replayed.specs.declared.Stopped.{Stopped}
use Rattle.replayed.proofs.Laws.{begun_digit, on_digit, on_gap}

-- once ended, nothing more is read
ended_stays : (label : Bool) (b : List ℕ) (s : Scanned) (k : ℕ) → ended s ≡ true → scanned label b s k ≡ record { found = s; at = k }
unfolding scanned
ended_stays label [] s k h = refl
ended_stays label (x ∷ b) s k h = rw h

module _ (label : Bool) (b : List ℕ) where
  Agrees : List ℕ → Scanned → ℕ → Type 0
  Agrees a s k =
      scanned label (a ++ b) s k
      ≡ cond (ended (scanned label a s k).found) (scanned label a s k) (scanned label b (scanned label a s k).found (k + length a))

  none : (s : Scanned) (k : ℕ) (t : Bool) → ended s ≡ t
      → scanned label b s k ≡ cond t (record { found = s; at = k }) (scanned label b s (k + 0))
  none s k true h = ended_stays label b s k h
  none s k false h = let same : k + 0 ≡ k = omega arith in rw same refl

  more : (x : ℕ) (a : List ℕ) (s : Scanned) (k : ℕ) (t : Bool) → ended s ≡ t → Agrees a (stepped label s x) (k + 1) → Agrees (x ∷ a) s k
  unfolding scanned Agrees
  more x a s k true h r = rw (h, h)
  more x a s k false h r = let same : k + suc (length a) ≡ k + 1 + length a = omega arith in rw (h, same) r

  agree : (a : List ℕ) (s : Scanned) (k : ℕ) → Agrees a s k
  unfolding scanned Agrees
  agree [] s k = none s k (ended s) refl
  agree (x ∷ a) s k = more x a s k (ended s) refl (agree a (stepped label s x) (k + 1))

pub chunks_agree : ChunksAgree
unfolding Agrees
chunks_agree label a b s k = agree label b a s k

-- two lists without a difference are equal, from any index
head_equal : (k x y : ℕ) (xs ys : List ℕ) (t : Bool)
    → eqb x y ≡ t
    → (difference (k + 1) xs ys ≡ None → xs ≡ ys)
    → cond t (difference (k + 1) xs ys) (Some k) ≡ None
    → x ∷ xs ≡ y ∷ ys
head_equal k x y xs ys true e r h = let same = eqb-true x y e in let rest = r h in cc
head_equal k x y xs ys false e r h = let z : ◌≡◌ {A = ℕ} 0 1 = cc in absurd (omega arith)

none_equal : (k : ℕ) (xs ys : List ℕ) → difference k xs ys ≡ None → xs ≡ ys
unfolding difference
none_equal k [] [] h = refl
none_equal k [] (y ∷ ys) h = let z : ◌≡◌ {A = ℕ} 0 1 = cc in absurd (omega arith)
none_equal k (x ∷ xs) [] h = let z : ◌≡◌ {A = ℕ} 0 1 = cc in absurd (omega arith)
none_equal k (x ∷ xs) (y ∷ ys) h = head_equal k x y xs ys (eqb x y) refl (none_equal (k + 1) xs ys) h

pub nothing_is_equal : NothingIsEqual
nothing_is_equal xs ys h = none_equal 0 xs ys h

same_none : (k : ℕ) (xs : List ℕ) → difference k xs xs ≡ None
unfolding difference
same_none k [] = refl
same_none k (x ∷ xs) = rw (eq-eqb x x refl) (same_none (k + 1) xs)

pub equal_is_nothing : EqualIsNothing
equal_is_nothing xs = same_none 0 xs

-- more digits make no smaller number
decimal_grows : (v : ℕ) (ds : List ℕ) → v ≤ decimal v ds
unfolding decimal
decimal_grows v [] = omega arith
decimal_grows v (d ∷ ds) = let h = decimal_grows (shifted v d) ds in omega arith

-- behind digits that are v, with a gap at the end
read_on : (label : Bool) (g : ℕ) (rest : List ℕ) → digit g ≡ false → gap label g ≡ true
    → (v k : ℕ) (ds : List ℕ) → All (λ (b : ℕ). digit b ≡ true) ds → decimal v ds < 2 ^ 64
    → (scanned label (ds ++ g ∷ rest) (Inside v) k).found ≡ Number (decimal v ds)
unfolding scanned decimal
read_on label g rest hg hs v k [] all h =
    rw (on_gap label g v hg hs) (ap (λ (r : Stopped). r.found) (ended_stays label rest (Number v) (k + 1) refl))
read_on label g rest hg hs v k (d ∷ ds) all h =
    let grows = decimal_grows (shifted v d) ds in
    let fits : shifted v d < 2 ^ 64 = omega arith in
    rw (on_digit label d v all.0 fits) (read_on label g rest hg hs (shifted v d) (k + 1) ds all.1 h)

pub digits_read : DigitsRead
unfolding scanned decimal
digits_read label d g ds rest all hg hs h =
    let first : shifted 0 d ≡ d - 48 = omega arith in
    rw (begun_digit label d all.0, first) (read_on label g rest hg hs (d - 48) 1 ds all.1 (rw first at h))
