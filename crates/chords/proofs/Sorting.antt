-- The notes' way: snapped word by word, sorted by places, fetched in that order.
use Prim.Native.Nat.{ℕ, ◌+◌, ◌-◌, ◌*◌, ◌/◌, ◌%◌, ◌^◌, ◌≤◌, ◌<◌, max, zero-le}
use mathlib.Core.List.{List, ◌++◌, map}
use mathlib.Core.Logic.{inl, inr}
use mathlib.Core.Path.{◌≡◌, refl, sym, ap, subst, ◌∙◌}
use native.Mathlib.Nat.{div-mul-le_self, mul-le-mul_right}
use native.Mathlib.Omega.{arith}
use borrow.Rule.Slice.PartMut.{put_mid}
use lib.ListN.{length, get_or, set, take, drop, length-set, length-map, length-drop}
use lib.Seq.{get_or-set_same, get_or-set_other, get_or-drop, get_or-take, get_or-append-add, length-take-le, take_all}
use Rattle.rules.specs.Grid.{snap, snapped}
use Rattle.rules.specs.Lists.{sort_by}
use Rattle.rules.specs.RawNotes.{RawNote}
use Rattle.rules.specs.Voices.{by_falling_key}
use Rattle.laws.specs.NoteWords.{end_word}
use Rattle.laws.specs.Parts.{part}
use Rattle.laws.specs.Sort.{key_of, count}
use Rattle.laws.proofs.Lists.{All-get}
use Rattle.laws.proofs.Order.{by_eq}
use Rattle.laws.proofs.Parts.{put_rest}
use Rattle.laws.proofs.Sort.{sort_places, All-sort, All-count, length_sort, length_count}
use Rattle.sort.specs.Sorted.{Placed}
use Rattle.laws.specs.Places.{up_to}
use Rattle.chords.specs.Columns.{note_at, falling_at, Ready}
use Rattle.chords.specs.Steps.{Same, SnappedTo, Fetched, SortedTo}
use Rattle.laws.proofs.Places.{get_d_map, up_to_length, up_to_get, up_to_is}

-- ---- two words are stored
module _ (w : List ℕ) (p q x y : ℕ) where
  two_off : (j : ℕ) → (j ≡ p → ⊥) → (j ≡ q → ⊥) → get_or (set (set w p x) q y) j 0 ≡ get_or w j 0
  two_off j a b = rw (get_or-set_other, get_or-set_other)

  two_first : p < length w → (p ≡ q → ⊥) → get_or (set (set w p x) q y) p 0 ≡ x
  two_first h b = rw (get_or-set_other, get_or-set_same)

  two_second : q < length w → get_or (set (set w p x) q y) q 0 ≡ y
  two_second h = let l : q < length (set w p x) = simp length-set h in rw get_or-set_same

-- ---- snapping

pub snap_le : (g t : ℕ) → snap g t ≤ t + g / 2
snap_le g t = div-mul-le_self (t + g / 2) g

-- the first i notes are snapped, and all notes stand as they did
pub record Snapping (n m g i : ℕ) (w w' : List ℕ) : Type 0 where
  pub upto : i ≤ m
  pub done : SnappedTo n i g w w'
  pub notes : Same 0 (2 * n) w w'

-- the words of note i, and their bounds
pub record Words (n i : ℕ) (w w' : List ℕ) : Type 0 where
  pub start : get_or w' (n + i) 0 ≡ get_or w (n + i) 0
  pub end : get_or w' i 0 ≡ get_or w i 0
  pub start_small : get_or w' (n + i) 0 < 2 ^ 54
  pub end_small : get_or w' i 0 < 2 ^ 51 + 16

module _ {n m g : ℕ} {w : List ℕ} (ready : Ready n m g w) where
  pub snapping_none : Snapping n m g 0 w w
  snapping_none =
      record {
        upto = zero-le;
        done = record { kept = refl; keys = λ i h. absurd (omega arith); ends = λ i h. absurd (omega arith) };
        notes = λ j _ _. refl;
      }

  module _ {w' : List ℕ} {i : ℕ} (s : Snapping n m g i w w') (h : i < m) where
    pub words : Words n i w w'
    words =
        let room = ready.room in
        let r = ready.notes i h in
        let p : get_or w' (n + i) 0 ≡ get_or w (n + i) 0 = s.notes (n + i) zero-le (omega arith) in
        let q : get_or w' i 0 ≡ get_or w i 0 = s.notes i zero-le (omega arith) in
        record { start = p; end = q; start_small = omega arith; end_small = omega arith }

    -- the snapped ticks are in range
    pub snapped_start : snap g (get_or w' (n + i) 0 / 128) ≤ 2 ^ 47 + 32767
    snapped_start =
        let small = ready.small_grid in
        omega (arith, words, snap_le g (get_or w' (n + i) 0 / 128))

    pub snapped_end : snap g (get_or w' i 0 / 16) ≤ 2 ^ 47 + 32767
    snapped_end =
        let small = ready.small_grid in
        omega (arith, words, snap_le g (get_or w' i 0 / 16))

    pub snapping_one : (a b : ℕ) → a ≡ snap g (get_or w' (n + i) 0 / 128) → b ≡ max (snap g (get_or w' i 0 / 16)) (a + g)
        → Snapping n m g (i + 1) w
        (set (set w' (4 * n + i) (a * 128 + (127 - get_or w' (n + i) 0 % 128))) (5 * n + i) (b * 16 + get_or w' i 0 % 16))
    snapping_one a b p q =
        let x = words in
        let room = ready.room in
        let long = s.done.kept in
        let area = ready.area in
        let K : a * 128 + (127 - get_or w' (n + i) 0 % 128) ≡ by_falling_key (snapped g (note_at n w i)) = rw (p, x.start) in
        let E : b * 16 + get_or w' i 0 % 16 ≡ end_word (snapped g (note_at n w i)) = rw (q, p, x.start, x.end) in
        record {
          upto = omega arith;
          done =
              record {
                kept = simp length-set long;
                keys = λ j l.
                    elim (by_eq j i) [
                      | inl e ↦ rw e (two_first w' (4 * n + i) (5 * n + i) _ _ (omega arith) (λ z. omega arith) ∙ K)
                      | inr e ↦ two_off w' (4 * n + i) (5 * n + i) _ _ (4 * n + j) (λ z. omega arith) (λ z. omega arith) ∙ s.done.keys j (omega arith)
                    ];
                ends = λ j l.
                    elim (by_eq j i) [
                      | inl e ↦ rw e (two_second w' (4 * n + i) (5 * n + i) _ _ (omega arith) ∙ E)
                      | inr e ↦ two_off w' (4 * n + i) (5 * n + i) _ _ (5 * n + j) (λ z. omega arith) (λ z. omega arith) ∙ s.done.ends j (omega arith)
                    ];
              };
          notes = λ j l k. two_off w' (4 * n + i) (5 * n + i) _ _ j (λ z. omega arith) (λ z. omega arith) ∙ s.notes j l k;
        }

pub snapping_end : {n m g i : ℕ} {w w' : List ℕ} → m ≤ i → Snapping n m g i w w' → SnappedTo n m g w w'
snapping_end h s =
    record { kept = s.done.kept; keys = λ j l. s.done.keys j (omega arith); ends = λ j l. s.done.ends j (omega arith) }

-- ---- fetching

-- the first i notes are fetched, and all from column 2 on is as it was
pub record Fetching (n m i : ℕ) (w w' : List ℕ) : Type 0 where
  pub upto : i ≤ m
  pub done : Fetched n i w w'
  pub rest : (j : ℕ) → 2 * n ≤ j → get_or w' j 0 ≡ get_or w j 0

pub fetching_none : (n m : ℕ) (w : List ℕ) → Fetching n m 0 w w
fetching_none n m w =
    record {
      upto = zero-le;
      done = record { kept = refl; ends = λ i h. absurd (omega arith); starts = λ i h. absurd (omega arith) };
      rest = λ j _. refl;
    }

pub fetching_end : {n m i : ℕ} {w w' : List ℕ} → m ≤ i → Fetching n m i w w' → Fetched n m w w'
fetching_end h s =
    record { kept = s.done.kept; ends = λ j l. s.done.ends j (omega arith); starts = λ j l. s.done.starts j (omega arith) }

pub place_small : {n m i : ℕ} {w w' : List ℕ} → ((j : ℕ) → j < m → get_or w (2 * n + j) 0 < n) → Fetching n m i w w' → i < m → get_or w' (2 * n + i) 0 < n
place_small {n} {m} {i} small s h = rw (s.rest (2 * n + i) (omega arith)) (small i h)

module _ {n m i : ℕ} {w w' : List ℕ} (area : 16 * n ≤ length w) (room : m ≤ n) (s : Fetching n m i w w') (h : i < m) where
  pub fetching_one : Fetching n m (i + 1) w
      (set (set w' i (get_or w' (5 * n + get_or w' (2 * n + i) 0) 0)) (n + i) (get_or w' (4 * n + get_or w' (2 * n + i) 0) 0))
  fetching_one =
      let long = s.done.kept in
      let p : get_or w' (2 * n + i) 0 ≡ get_or w (2 * n + i) 0 = s.rest (2 * n + i) (omega arith) in
      let at : (c : ℕ) → 2 ≤ c → get_or w' (c * n + get_or w' (2 * n + i) 0) 0 ≡ get_or w (c * n + get_or w (2 * n + i) 0) 0 =
      λ c l. rw p (s.rest (c * n + get_or w (2 * n + i) 0) (omega (arith, mul-le-mul_right n l))) in
      record {
        upto = omega arith;
        done =
            record {
              kept = simp length-set long;
              ends = λ j l.
                  elim (by_eq j i) [
                    | inl e ↦ rw e (two_first w' i (n + i) _ _ (omega arith) (λ z. omega arith) ∙ at 5 (omega arith))
                    | inr e ↦ two_off w' i (n + i) _ _ j e (λ z. omega arith) ∙ s.done.ends j (omega arith)
                  ];
              starts = λ j l.
                  elim (by_eq j i) [
                    | inl e ↦ rw e (two_second w' i (n + i) _ _ (omega arith) ∙ at 4 (omega arith))
                    | inr e ↦ two_off w' i (n + i) _ _ (n + j) (λ z. omega arith) (λ z. omega arith) ∙ s.done.starts j (omega arith)
                  ];
            };
        rest = λ j l. two_off w' i (n + i) _ _ j (λ z. omega arith) (λ z. omega arith) ∙ s.rest j l;
      }

-- ---- sorting

-- the words of a note, taken apart
falling_is : (n i : ℕ) (w : List ℕ) (x : RawNote) → x.key < 128 → x.channel < 16 → get_or w (n + i) 0 ≡ by_falling_key x → get_or w i 0 ≡ end_word x
    → falling_at n w i ≡ x
falling_is n i w x k c p q =
    let s : get_or w (n + i) 0 / 128 ≡ x.start = omega arith in
    let e : get_or w i 0 / 16 ≡ x.end = omega arith in
    let y : 127 - get_or w (n + i) 0 % 128 ≡ x.key = omega arith in
    let z : get_or w i 0 % 16 ≡ x.channel = omega arith in
    λ t. record { start = s t; end = e t; key = y t; channel = z t }

-- w₁ has the snapped words, and its rest from column 2 on came back from the sort as v
module _ {n m g : ℕ} {w w₁ v : List ℕ} (ready : Ready n m g w) (s : SnappedTo n m g w w₁)
    (lent : Placed (part (2 * n) (length w₁ - 2 * n) w₁) v m (2 * n)) where
  places_in : Placed (drop (2 * n) w₁) v m (2 * n)
  places_in =
      let e : length (drop (2 * n) w₁) ≤ length w₁ - 2 * n = simp length-drop (omega arith) in
      subst (λ (l : List ℕ). Placed l v m (2 * n)) (take_all (length w₁ - 2 * n) (drop (2 * n) w₁) e) lent

  keys : List ℕ
  keys = drop (2 * n) (drop (2 * n) w₁)

  places : List ℕ
  places = sort_by (key_of keys) (count 0 m)

  notes : List RawNote
  notes = map (snapped g) (up_to (note_at n w) m)

  no_note : RawNote
  no_note = record { start = 0; end = 0; key = 0; channel = 0 }

  places_length : length places ≡ m
  unfolding places
  places_length = length_sort (key_of keys) (count 0 m) ∙ length_count 0 m

  places_small : (i : ℕ) → i < m → get_or places i 0 < m
  unfolding places
  places_small i h =
      All-get (λ x. x < m) places i 0 (All-sort (key_of keys) (λ x. x < m) (count 0 m) (All-count (λ x. x < m) 0 m (λ j _ l. omega arith)))
      (omega (arith, places_length))

  -- the area after the sort
  abbrev after : List ℕ
  after = put_mid (2 * n) (length w₁ - 2 * n) w₁ v

  after_get : (j : ℕ) → get_or after (2 * n + j) 0 ≡ get_or v j 0
  after_get j =
      let area = ready.area in
      let long = s.kept in
      let e : length (take (2 * n) w₁) ≡ 2 * n = length-take-le (2 * n) w₁ (omega arith) in
      rw (put_rest (2 * n) w₁ v (omega arith)) (ap (λ (k : ℕ). get_or (take (2 * n) w₁ ++ v) (k + j) 0) (sym e) ∙ get_or-append-add (take (2 * n) w₁) v j 0)

  after_place : (i : ℕ) → i < m → get_or after (2 * n + i) 0 ≡ get_or places i 0
  unfolding places keys
  after_place i h = after_get i ∙ sym (get_or-take m v i 0 h) ∙ ap (λ (l : List ℕ). get_or l i 0) places_in.front

  after_column : (j : ℕ) → get_or after (4 * n + j) 0 ≡ get_or w₁ (4 * n + j) 0
  after_column j =
      let e : 4 * n + j ≡ 2 * n + (2 * n + j) = omega arith in
      rw e (after_get (2 * n + j) ∙ sym (get_or-drop (2 * n) v j 0) ∙ ap (λ (l : List ℕ). get_or l j 0) places_in.keys ∙ get_or-drop (2 * n) (drop (2 * n) w₁) j 0
      ∙ get_or-drop (2 * n) w₁ (2 * n + j) 0)

  pub after_small : (i : ℕ) → i < m → get_or after (2 * n + i) 0 < n
  after_small i h = let room = ready.room in rw (after_place i h) (omega (arith, places_small i h))

  note_at_lem : (i : ℕ) → i < m → get_or notes i no_note ≡ snapped g (note_at n w i)
  unfolding notes
  note_at_lem i h =
      get_d_map (snapped g) (up_to (note_at n w) m) i no_note no_note (omega (arith, up_to_length (note_at n w) m))
      ∙ ap (snapped g) (up_to_get (note_at n w) m i no_note h)

  notes_length : length notes ≡ m
  unfolding notes
  notes_length = length-map (up_to (note_at n w) m) (snapped g) ∙ up_to_length (note_at n w) m

  sorted_is : map (λ i. get_or notes i no_note) places ≡ sort_by by_falling_key notes
  unfolding places keys
  sorted_is =
      ap (λ (k : ℕ). map (λ i. get_or notes i no_note) (sort_by (key_of keys) (count 0 k))) (sym notes_length)
      ∙ sort_places no_note by_falling_key notes keys (λ i h. key i (omega (arith, notes_length)))
    where
      key : (i : ℕ) → i < m → get_or keys i 0 ≡ by_falling_key (get_or notes i no_note)
      key i h =
          let e : 2 * n + (2 * n + i) ≡ 4 * n + i = omega arith in
          get_or-drop (2 * n) (drop (2 * n) w₁) i 0 ∙ get_or-drop (2 * n) w₁ (2 * n + i) 0 ∙ ap (λ (j : ℕ). get_or w₁ j 0) e ∙ s.keys i h
          ∙ ap by_falling_key (sym (note_at_lem i h))

  module _ {w₂ : List ℕ} (f : Fetched n m after w₂) where
    fetched_note : (i : ℕ) → i < m → falling_at n w₂ i ≡ get_or notes (get_or places i 0) no_note
    fetched_note i h =
        let x = get_or places i 0 in
        let l : x < m = places_small i h in
        let e : 5 * n + x ≡ 4 * n + (n + x) = omega arith in
        falling_is n i w₂ (snapped g (note_at n w x)) (omega arith) (omega arith)
        (f.starts i h ∙ rw (after_place i h) (after_column x ∙ s.keys x l))
        (f.ends i h ∙ rw (after_place i h) (ap (λ (j : ℕ). get_or after j 0) e ∙ after_column (n + x) ∙ ap (λ (j : ℕ). get_or w₁ j 0) (sym e) ∙ s.ends x l))
        ∙ sym (note_at_lem x l)

    pub sorted_from : length after ≡ length w₁ → SortedTo n m g w w₂
    unfolding notes
    sorted_from long =
        record {
          kept = f.kept ∙ long ∙ s.kept;
          notes =
              up_to_is (falling_at n w₂) m no_note (map (λ i. get_or notes i no_note) places) (length-map places (λ i. get_or notes i no_note) ∙ places_length)
              (λ i h. fetched_note i h ∙ sym (get_d_map (λ j. get_or notes j no_note) places i no_note 0 (omega (arith, places_length))))
              ∙ sorted_is;
        }
