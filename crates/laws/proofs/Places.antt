-- Elements of a list by their places: set, mapped, taken in turn, given place by place by a function (`up_to`, `down`), written to an output.
use Prim.Native.Nat.{ℕ, zero, suc, ◌+◌, ◌-◌, ◌≤◌, ◌<◌}
use mathlib.Core.Bool.{Bool, true, false}
use mathlib.Core.List.{List, [], ◌∷◌, ◌++◌, map, foldl, head?, reverse, reverse-cons, map-append, foldl-append}
use mathlib.Core.Logic.{inl, inr}
use mathlib.Core.Option.{none, some}
use mathlib.Core.Path.{◌≡◌, refl, sym, ap, ◌∙◌}
use native.Mathlib.Nat.{add-suc, add-zero, zero-add, suc-add}
use native.Mathlib.Numerals.{add-one}
use native.Mathlib.Omega.{arith}
use lib.ListN.{length, get_or, set, take, drop, replicate, length-map, length-append, length-drop, drop_of_length-le}
use lib.Seq.{ext_get_or, get_or-set_same, get_or-set_other, drop-cons, drop-drop, take_at, drop-append-add}
use Rattle.rules.specs.Lists.{any, is_empty, written}
use Rattle.laws.specs.Places.{up_to, down}
use Rattle.laws.specs.Sort.{count}
use Rattle.laws.proofs.Order.{by_eq}
use Rattle.laws.proofs.Sort.{length_count}

-- ---- a list that is set from the front

pub set_more : {A : Type 0} (f : ℕ → A) (l : List A) (n : ℕ) (d : A) → n < length l → ((k : ℕ) → k < n → get_or l k d ≡ f k)
    → (k : ℕ) → k < n + 1 → get_or (set l n (f n)) k d ≡ f k
set_more f l n d h old k g =
    elim (by_eq k n) [
      | inl e ↦ rw e (get_or-set_same l n (f n) d h)
      | inr ne ↦ get_or-set_other l n k (f n) d ne ∙ old k (omega arith)
    ]

-- ---- a state that goes through what is left

module _ {A B : Type 0} (f : B → A → B) (xs : List A) (i : ℕ) (b : B) where
  pub foldl_left : (d : A) → i < length xs → foldl f (f b (get_or xs i d)) (drop (i + 1) xs) ≡ foldl f b (drop i xs)
  foldl_left d h = rw (drop-cons xs i d h, add-one)

  pub foldl_end : length xs ≤ i → foldl f b (drop i xs) ≡ b
  foldl_end h = rw (drop_of_length-le xs h)

module _ {A : Type 0} where
  -- the element behind the first i
  pub take_more : (i : ℕ) (xs : List A) (x : A) (ys : List A) → drop i xs ≡ x ∷ ys → take (suc i) xs ≡ take i xs ++ (x ∷ [])
  take_more zero [] x ys h = absurd (let z : ◌≡◌ {A = ℕ} 0 1 = cc in omega arith)
  take_more zero (y ∷ xs) x ys h = let e : y ≡ x = cc in rw e
  take_more (suc i) [] x ys h = absurd (let z : ◌≡◌ {A = ℕ} 0 1 = cc in omega arith)
  take_more (suc i) (y ∷ xs) x ys h = ap (λ l. y ∷ l) (take_more i xs x ys h)

pub map_set : {A B : Type 0} (f : A → B) (xs : List A) (i : ℕ) (y : A) → map f (set xs i y) ≡ set (map f xs) i (f y)
map_set f [] i y = refl
map_set f (x ∷ xs) zero y = refl
map_set f (x ∷ xs) (suc i) y = ap (λ (l : List _). f x ∷ l) (map_set f xs i y)

-- ---- places
get_d_count : (a m i d : ℕ) → i < m → get_or (count a m) i d ≡ a + i
unfolding count
get_d_count a zero i d h = absurd (omega arith)
get_d_count a (suc m) zero d h = omega arith
get_d_count a (suc m) (suc i) d h = omega (arith, get_d_count (suc a) m i d (omega arith))

count_more : (a m : ℕ) → count a (suc m) ≡ count a m ++ ((a + m) ∷ [])
unfolding count
count_more a zero = rw add-zero
count_more a (suc m) = ap (λ (l : List ℕ). a ∷ l) (count_more (suc a) m ∙ rw (add-suc, suc-add))

count_split : (a k m : ℕ) → count a (k + m) ≡ count a k ++ count (a + k) m
unfolding count
count_split a zero m = rw (zero-add, add-zero)
count_split a (suc k) m = rw suc-add (ap (λ (l : List ℕ). a ∷ l) (count_split (suc a) k m ∙ rw (add-suc, suc-add)))

pub get_d_map : {A B : Type 0} (f : A → B) (l : List A) (i : ℕ) (d : B) (e : A) → i < length l → get_or (map f l) i d ≡ f (get_or l i e)
get_d_map f [] i d e h = absurd (omega arith)
get_d_map f (x ∷ xs) zero d e h = refl
get_d_map f (x ∷ xs) (suc i) d e h = get_d_map f xs i d e (omega arith)

module _ {A : Type 0} where
  -- ---- upwards
  pub up_to_length : (f : ℕ → A) (m : ℕ) → length (up_to f m) ≡ m
  up_to_length f m = length-map (count 0 m) f ∙ length_count 0 m

  pub up_to_get : (f : ℕ → A) (m i : ℕ) (d : A) → i < m → get_or (up_to f m) i d ≡ f i
  up_to_get f m i d h =
      get_d_map f (count 0 m) i d 0 (omega (arith, length_count 0 m)) ∙ ap f (get_d_count 0 m i 0 h ∙ omega arith)

  pub up_to_is : (f : ℕ → A) (m : ℕ) (d : A) (xs : List A) → length xs ≡ m → ((i : ℕ) → i < m → f i ≡ get_or xs i d) → up_to f m ≡ xs
  up_to_is f m d xs e h =
      ext_get_or d (up_to f m) xs (up_to_length f m ∙ sym e)
      (λ i l. let o : i < m = omega (arith, up_to_length f m) in up_to_get f m i d o ∙ h i o)

  pub up_to_more : (f : ℕ → A) (m : ℕ) → up_to f (m + 1) ≡ up_to f m ++ (f m ∷ [])
  up_to_more f m = rw (add-one, count_more, map-append, zero-add)

  pub up_to_split : (f : ℕ → A) (k m : ℕ) → k < m → up_to f m ≡ up_to f k ++ (f k ∷ map f (count (suc k) (m - suc k)))
  unfolding count
  up_to_split f k m h =
      let e : m ≡ k + suc (m - suc k) = omega arith in
      ap (up_to f) e ∙ rw (count_split, map-append, zero-add)

  -- ---- downwards
  pub down_same : (f g : ℕ → A) (m : ℕ) → ((i : ℕ) → i < m → f i ≡ g i) → down f m ≡ down g m
  unfolding down
  down_same f g zero h = refl
  down_same f g (suc m) h = rw (h m (omega arith), down_same f g m (λ i l. h i (omega arith)))

  pub down_more : (f : ℕ → A) (m : ℕ) → down f (m + 1) ≡ f m ∷ down f m
  unfolding down
  down_more f m = rw add-one

  pub down_split : (f : ℕ → A) (i k : ℕ) → down f (i + k) ≡ down (λ j. f (i + j)) k ++ down f i
  unfolding down
  down_split f i zero = rw add-zero
  down_split f i (suc k) = rw add-suc (ap (λ (l : List A). f (i + k) ∷ l) (down_split f i k))

  pub down_none : (p : A → Bool) (f : ℕ → A) (m : ℕ) → ((j : ℕ) → j < m → p (f j) ≡ false) → any p (down f m) ≡ false
  unfolding any down
  down_none p f zero h = refl
  down_none p f (suc m) h = rw (h m (omega arith)) (down_none p f m (λ j l. h j (omega arith)))

  pub reverse_down : (f : ℕ → A) (m : ℕ) → reverse (down f m) ≡ up_to f m
  unfolding down count
  reverse_down f zero = refl
  reverse_down f (suc m) = reverse-cons (f m) (down f m) ∙ rw (reverse_down f m) (sym (rw add-one at (up_to_more f m)))

  -- ---- a fold
  pub foldl_more : {B : Type 0} (g : B → A → B) (b : B) (xs : List A) (x : A) → foldl g b (xs ++ (x ∷ [])) ≡ g (foldl g b xs) x
  foldl_more g b xs x = foldl-append g b xs (x ∷ [])

pub head_none : {A : Type 0} (xs : List A) → head? xs ≡ none → length xs ≡ 0
head_none [] h = refl
head_none (x ∷ xs) h = let z : ◌≡◌ {A = ℕ} 0 1 = cc in absurd (omega arith)

pub head_some : {A : Type 0} (xs : List A) (x : A) → head? xs ≡ some x → 0 < length xs
head_some [] x h = let z : ◌≡◌ {A = ℕ} 0 1 = cc in absurd (omega arith)
head_some (y ∷ ys) x h = omega arith

-- ---- one element

-- an element of a list of equal ones
pub of_replicate : {A : Type 0} (P : A → Type 0) (n i : ℕ) (a d : A) → P a → P d → P (get_or (replicate n a) i d)
of_replicate P zero i a d h k = k
of_replicate P (suc n) zero a d h k = h
of_replicate P (suc n) (suc i) a d h k = of_replicate P n i a d h k

-- an element after a store is the stored one or the one before
pub after_set : {A : Type 0} (P : A → Type 0) (l : List A) (i j : ℕ) (v d : A) → P v → P (get_or l j d) → P (get_or (set l i v) j d)
after_set P [] i j v d h k = k
after_set P (x ∷ xs) zero zero v d h k = h
after_set P (x ∷ xs) zero (suc j) v d h k = k
after_set P (x ∷ xs) (suc i) zero v d h k = k
after_set P (x ∷ xs) (suc i) (suc j) v d h k = after_set P xs i j v d h k

-- ---- no element, or some

pub none_empty : {A : Type 0} (xs : List A) → length xs ≡ 0 → is_empty xs ≡ true
none_empty [] h = refl
none_empty (x ∷ xs) h = absurd (omega arith)

pub some_left : {A : Type 0} (xs : List A) → (length xs ≡ 0 → ⊥) → is_empty xs ≡ false
some_left [] h = absurd (h refl)
some_left (x ∷ xs) h = refl

pub no_elements : {A : Type 0} (xs : List A) → length xs ≡ 0 → xs ≡ []
no_elements [] h = refl
no_elements (x ∷ xs) h = absurd (omega arith)

-- ---- outputs

pub length_written : (xs l : List ℕ) → length xs ≤ length l → length (written xs l) ≡ length l
length_written xs l h = rw (length-append, length-drop) (omega arith)

-- what is written behind xs is as if written with xs
pub written_more : (xs ys l : List ℕ) (n : ℕ) → n ≡ length xs → written (take n (written xs l) ++ ys) (written xs l) ≡ written (xs ++ ys) l
written_more xs ys l n e =
    rw (take_at xs (drop (length xs) l) n (sym e), length-append, drop-append-add xs (drop (length xs) l) (length ys), drop-drop (length ys) (length xs) l)
