-- One turn of each loop, as laws on lists.
use Prim.Native.Nat.{ℕ, zero, suc, ◌+◌, ◌-◌, ◌^◌, ◌≤◌, ◌<◌}
use mathlib.Core.Bool.{Bool, true, false, ◌&&◌}
use mathlib.Core.List.{List, [], ◌∷◌, ◌++◌, append-nil, map}
use mathlib.Core.Path.{◌≡◌, refl, sym, ap, ◌∙◌}
use native.Mathlib.Nat.{not-suc-le-zero, le_of_suc-le-suc}
use native.Mathlib.Numerals.{add-one}
use native.Mathlib.Omega.{arith}
use borrow.Author.Tests.{eqb-true, leb-true, lt-ltb, le-ltb, le-leb, lt-leb, eq-eqb, ne_eqb}
use lib.Dec.{eqb, leb}
use lib.ListN.{length, get_or, set, drop, replicate, drop_of_length-le}
use lib.Seq.{drop-cons}
use Rattle.std.specs.List.{position_from, position_or_len}
use Rattle.std.specs.Prelude.{Option, Some, None, not, cond, ltb}
use Rattle.std.proofs.lemmas.Bool.{eqb-false}
use Rattle.std.proofs.lemmas.Iterator.Adapters.{position_from-zero}
use Rattle.std.proofs.lemmas.List.{length-map, map-set, get_or-map}
use Rattle.replayed.specs.Decimals.{digit, gap, shifted, begun_by, gone_on_by, stepped, ended, scanned}
use Rattle.replayed.specs.Differences.{difference, other, others}
use Rattle.replayed.specs.declared.Scanned.{Scanned}
use Rattle.replayed.specs.declared.Scanned.TheVariants.{Before, Inside, Number, Word, Large}

-- a digit is at least 48 and at most 57
pub digit_low : (b : ℕ) → digit b ≡ true → 48 ≤ b
digit_low b h = leb-true 48 b (and_left (leb 48 b) (leb b 57) h)
  where
    and_left : (x y : Bool) → (x && y) ≡ true → x ≡ true
    and_left true y h = refl
    and_left false y h = h

-- a list of a number type as its numbers: as long, a store stores the number, and an element's number stands in its place
module _ {S : Type 0} {value : S → ℕ} {values : List S → List ℕ} (same : (l : List S) → values l ≡ map value l) where
  pub values_length : (l : List S) → length (values l) ≡ length l
  values_length l = rw same (length-map l value)

  pub values_set : (l : List S) (i : ℕ) (x : S) (n : ℕ) → value x ≡ n → values (set l i x) ≡ set (values l) i n
  values_set l i x n e =
      same (set l i x) ∙ map-set value l i x ∙ ap (λ (t : List ℕ). set t i (value x)) (sym (same l)) ∙ ap (set (values l) i) e

  pub values_at : (l : List S) (i : ℕ) (x : S) → i < length l → x ≡ get_or l i x → get_or (values l) i 0 ≡ value x
  values_at l i x h e = rw same (get_or-map value l i x 0 h ∙ ap value (sym e))

-- where the first difference from i on is that of the whole lists: it is that from i + 1 on, it is i, or there is none
module _ (w f : List ℕ) (i : ℕ) (so_far : difference i (drop i w) (drop i f) ≡ difference 0 w f) where
  pub differ_more : i < length w → i < length f → get_or w i 0 ≡ get_or f i 0
      → difference (i + 1) (drop (i + 1) w) (drop (i + 1) f) ≡ difference 0 w f
  unfolding difference
  differ_more hw hf e =
      let step : difference i (drop i w) (drop i f) ≡ difference (i + 1) (drop (i + 1) w) (drop (i + 1) f) =
      rw (drop-cons w i 0 hw, drop-cons f i 0 hf, eq-eqb _ _ e, add-one) in
      sym step ∙ so_far

  pub differ_here : i < length w → i < length f → (get_or w i 0 ≡ get_or f i 0 → ⊥) → Some i ≡ difference 0 w f
  unfolding difference
  differ_here hw hf e =
      let here : difference i (drop i w) (drop i f) ≡ Some i =
      rw (drop-cons w i 0 hw, drop-cons f i 0 hf, ne_eqb _ _ e) in
      sym here ∙ so_far

  pub differ_short : i < length w → length f ≤ i → Some i ≡ difference 0 w f
  unfolding difference
  differ_short hw hf =
      let short : difference i (drop i w) (drop i f) ≡ Some i =
      rw (drop-cons w i 0 hw, drop_of_length-le f hf) in
      sym short ∙ so_far

  pub differ_long : length w ≤ i → i < length f → Some i ≡ difference 0 w f
  unfolding difference
  differ_long hw hf =
      let long : difference i (drop i w) (drop i f) ≡ Some i =
      rw (drop_of_length-le w hw, drop-cons f i 0 hf) in
      sym long ∙ so_far

  pub differ_long_at_end : i ≡ length w → length w < length f → Some (length w) ≡ difference 0 w f
  differ_long_at_end e h = ap (λ (k : ℕ). Some k) (sym e) ∙ differ_long (omega arith) (omega arith)

  pub differ_end : length w ≤ i → length f ≤ i → None ≡ difference 0 w f
  unfolding difference
  differ_end hw hf =
      let ends : difference i (drop i w) (drop i f) ≡ None =
      rw (drop_of_length-le w hw, drop_of_length-le f hf) in
      sym ends ∙ so_far

-- the first number that is not 0 is the first difference from as many zeros
step_zero : (k x : ℕ) (l : List ℕ) (t : Bool) → eqb x 0 ≡ t
    → position_from (λ (n : ℕ). not (eqb n 0)) (k + 1) l ≡ difference (k + 1) (replicate (length l) 0) l
    → position_from (λ (n : ℕ). not (eqb n 0)) k (x ∷ l) ≡ difference k (replicate (length (x ∷ l)) 0) (x ∷ l)
unfolding difference
step_zero k x l true e r = rw (e, eq-eqb 0 x (sym (eqb-true x 0 e))) r
step_zero k x l false e r = rw (e, ne_eqb 0 x (λ h. eqb-false x 0 e (sym h)))

first_from : (k : ℕ) (l : List ℕ) → position_from (λ (n : ℕ). not (eqb n 0)) k l ≡ difference k (replicate (length l) 0) l
unfolding difference
first_from k [] = refl
first_from k (x ∷ l) = step_zero k x l (eqb x 0) refl (first_from (k + 1) l)

pub first_is : (l : List ℕ) (r : Option ℕ)
    → r ≡ cond (ltb (position_or_len (λ (n : ℕ). not (eqb n 0)) l) (length l)) (Some (position_or_len (λ (n : ℕ). not (eqb n 0)) l)) None
    → r ≡ difference 0 (replicate (length l) 0) l
first_is l r h = h ∙ position_from-zero (λ (n : ℕ). not (eqb n 0)) l ∙ first_from 0 l

-- a store at n makes one number more
others_suc : (k n v : ℕ) (d : List ℕ) → v ≡ other (k + n) → n < length d
    → set (others k n ++ drop n d) n v ≡ others k (suc n) ++ drop (suc n) d
unfolding others
others_suc k n v [] e h = absurd (not-suc-le-zero h)
others_suc k zero v (x ∷ d) e h =
    let same : k + 0 ≡ k = omega arith in
    ap (λ (y : ℕ). y ∷ d) (e ∙ ap other same)
others_suc k (suc n) v (x ∷ d) e h =
    let same : k + suc n ≡ k + 1 + n = omega arith in
    ap (λ (t : List ℕ). other k ∷ t) (others_suc (k + 1) n v d (e ∙ ap other same) (le_of_suc-le-suc h))

pub others_more : (l₀ l : List ℕ) (n : ℕ) → n < length l₀ → l ≡ others 0 n ++ drop n l₀
    → set l n (other n) ≡ others 0 (n + 1) ++ drop (n + 1) l₀
others_more l₀ l n h e =
    ap (λ (t : List ℕ). set t n (other n)) e ∙ rw add-one (others_suc 0 n (other n) l₀ (ap other (omega arith)) h)

-- a front that has grown to the whole list is the list
pub front_whole : (front : ℕ → List ℕ) (l₀ l : List ℕ) (n : ℕ) → n ≤ length l₀ → length l₀ ≤ n → l ≡ front n ++ drop n l₀
    → l ≡ front (length l₀)
front_whole front l₀ l n h k e =
    let last : n ≡ length l₀ = omega arith in
    e ∙ rw (last, drop_of_length-le l₀ {i = length l₀} (omega arith), append-nil)

pub others_none : (d : List ℕ) → d ≡ others 0 0 ++ drop 0 d
unfolding others
others_none d = refl

module _ (label : Bool) (text : List ℕ) (s : Scanned) (at : ℕ) where
  pub scan_more : at < length text → ended s ≡ false
      → scanned label (drop at text) s at ≡ scanned label (drop (at + 1) text) (stepped label s (get_or text at 0)) (at + 1)
  unfolding scanned
  scan_more h e = rw (drop-cons text at 0 h, e, add-one)

  pub scan_ended : at < length text → ended s ≡ true → scanned label (drop at text) s at ≡ record { found = s; at = at }
  unfolding scanned
  scan_ended h e = rw (drop-cons text at 0 h, e)

  pub scan_end : length text ≤ at → scanned label (drop at text) s at ≡ record { found = s; at = at }
  unfolding scanned
  scan_end h = rw (drop_of_length-le text h)

module _ (label : Bool) (b : ℕ) where
  pub begun_digit : digit b ≡ true → begun_by label b ≡ Inside (b - 48)
  unfolding begun_by
  begun_digit h = rw h

  pub begun_gap : digit b ≡ false → gap label b ≡ true → begun_by label b ≡ Before
  unfolding begun_by
  begun_gap h g = rw (h, g)

  pub begun_word : digit b ≡ false → gap label b ≡ false → begun_by label b ≡ Word
  unfolding begun_by
  begun_word h g = rw (h, g)

  module _ (v : ℕ) where
    pub on_digit : digit b ≡ true → shifted v b < 2 ^ 64 → gone_on_by label v b ≡ Inside (shifted v b)
    unfolding gone_on_by
    on_digit h l = rw (h, lt-ltb _ _ l)

    pub on_large : digit b ≡ true → 2 ^ 64 ≤ shifted v b → gone_on_by label v b ≡ Large
    unfolding gone_on_by
    on_large h l = rw (h, le-ltb _ _ l)

    pub on_gap : digit b ≡ false → gap label b ≡ true → gone_on_by label v b ≡ Number v
    unfolding gone_on_by
    on_gap h g = rw (h, g)

    pub on_word : digit b ≡ false → gap label b ≡ false → gone_on_by label v b ≡ Word
    unfolding gone_on_by
    on_word h g = rw (h, g)

  -- where a label may stand, every such byte is a gap; elsewhere those up to 32 are
  pub gap_label : label ≡ true → gap label b ≡ true
  gap_label h = rw h

  pub gap_low : label ≡ false → b ≤ 32 → gap label b ≡ true
  gap_low h l = rw (h, le-leb _ _ l)

  pub gap_none : label ≡ false → 32 < b → gap label b ≡ false
  gap_none h l = rw (h, lt-leb _ _ l)
