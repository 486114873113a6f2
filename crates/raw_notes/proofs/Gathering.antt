-- The notes in order: their words are brought to the front one after another, by the places that the sort left.
use Prim.Native.Nat.{ℕ, ◌+◌, ◌-◌, ◌*◌, ◌≤◌, ◌<◌}
use mathlib.Core.List.{List, [], ◌∷◌, ◌++◌, map, map-map, map-append}
use mathlib.Core.Path.{◌≡◌, refl, sym, ap, ◌∙◌}
use native.Mathlib.Numerals.{add-one}
use native.Mathlib.Omega.{arith}
use lib.ListN.{length, get_or, set, take, drop, length-set, length-drop, get_or-map}
use lib.Seq.{take-suc, take-suc-set, take-set-le, take-take, drop-set-lt, drop-set-add, get_or-set_other, get_or-take, get_or-drop}
use Rattle.rules.specs.Lists.{All, sort_by}
use Rattle.rules.specs.Piece.{Event}
use Rattle.rules.specs.RawNotes.{RawNote, note_events, pairing, by_start, raw_notes_of, last_tick}
use Rattle.laws.specs.NoteWords.{start_word, end_word}
use Rattle.laws.specs.Parts.{part}
use Rattle.laws.specs.Sort.{key_of, count}
use Rattle.laws.proofs.Lists.{All-imp}
use Rattle.laws.proofs.Sort.{All-sort, All-count, length_sort, sort_places}
use Rattle.sort.specs.Sorted.{Placed}
use Rattle.raw_notes.specs.Columns.{Listed, Noted}
use Rattle.raw_notes.specs.Stages.{PairedAll, closing, AllClosed, Gathered}
use Rattle.raw_notes.specs.declared.Seen.{Seen}

-- ---- the loop: i notes are brought
pub record Gathering (w₀ w : List ℕ) (n r i : ℕ) : Type 0 where
  pub within : i ≤ r
  pub kept : length w ≡ length w₀
  pub ends : take i w ≡ map (λ p. get_or w₀ (3 * n + p) 0) (take i w₀)
  pub starts : take i (drop n w) ≡ map (λ p. get_or w₀ (2 * n + p) 0) (take i w₀)
  pub places : (j : ℕ) → i ≤ j → j < n → get_or w j 0 ≡ get_or w₀ j 0
  pub rest : (j : ℕ) → 2 * n ≤ j → get_or w j 0 ≡ get_or w₀ j 0

-- one element more of a list that is mapped
map_more : (f : ℕ → ℕ) (w : List ℕ) (i : ℕ) → i < length w → map f (take i w) ++ (f (get_or w i 0) ∷ []) ≡ map f (take (i + 1) w)
map_more f w i h = sym (rw (add-one, take-suc w i 0 h) (map-append f (take i w) (get_or w i 0 ∷ [])))

module _ {w₀ w : List ℕ} {n r i : ℕ} (room : r ≤ n) (area : 16 * n ≤ length w₀) (p : Gathering w₀ w n r i)
    (more : i < r) where
  abbrev end : ℕ
  end = get_or w (3 * n + get_or w i 0) 0

  abbrev w₁ : List ℕ
  w₁ = set w i end

  abbrev start : ℕ
  start = get_or w₁ (2 * n + get_or w i 0) 0

  end_is : end ≡ get_or w₀ (3 * n + get_or w₀ i 0) 0
  end_is = p.rest (3 * n + get_or w i 0) (omega arith) ∙ ap (λ (q : ℕ). get_or w₀ (3 * n + q) 0) (p.places i (omega arith) (omega arith))

  start_is : start ≡ get_or w₀ (2 * n + get_or w₀ i 0) 0
  start_is =
      get_or-set_other w i (2 * n + get_or w i 0) end 0 (λ z. absurd (omega arith))
      ∙ p.rest (2 * n + get_or w i 0) (omega arith)
      ∙ ap (λ (q : ℕ). get_or w₀ (2 * n + q) 0) (p.places i (omega arith) (omega arith))

  pub gathering_more : Gathering w₀ (set w₁ (n + i) start) n r (i + 1)
  gathering_more =
      record {
        within = omega arith;
        kept = simp length-set p.kept;
        ends =
            take-set-le (i + 1) w₁ (n + i) start (omega arith)
            ∙ rw (add-one) (take-suc-set w i end (omega (arith, p.kept)))
            ∙ ap (λ (l : List ℕ). l ++ (end ∷ [])) p.ends
            ∙ ap (λ (x : ℕ). map (λ p. get_or w₀ (3 * n + p) 0) (take i w₀) ++ (x ∷ [])) end_is
            ∙ map_more (λ p. get_or w₀ (3 * n + p) 0) w₀ i (omega arith);
        starts =
            ap (take (i + 1)) (drop-set-add n w₁ i start ∙ ap (λ (l : List ℕ). set l i start) (drop-set-lt n w i end (omega arith)))
            ∙ rw (add-one) (take-suc-set (drop n w) i start (simp length-drop (omega (arith, p.kept))))
            ∙ ap (λ (l : List ℕ). l ++ (start ∷ [])) p.starts
            ∙ ap (λ (x : ℕ). map (λ p. get_or w₀ (2 * n + p) 0) (take i w₀) ++ (x ∷ [])) start_is
            ∙ map_more (λ p. get_or w₀ (2 * n + p) 0) w₀ i (omega arith);
        places = λ j a b. outside j (λ z. absurd (omega arith)) (λ z. absurd (omega arith)) ∙ p.places j (omega arith) b;
        rest = λ j a. outside j (λ z. absurd (omega arith)) (λ z. absurd (omega arith)) ∙ p.rest j a;
      }
    where
      outside : (j : ℕ) → (j ≡ i → ⊥) → (j ≡ n + i → ⊥) → get_or (set w₁ (n + i) start) j 0 ≡ get_or w j 0
      outside j a b = get_or-set_other w₁ (n + i) j start 0 b ∙ get_or-set_other w i j end 0 a

-- ---- all stages together
no_note : RawNote
no_note = record { start = 0; end = 0; key = 0; channel = 0 }

map_agree : {A : Type 0} (f g : A → ℕ) (xs : List A) → All (λ x. f x ≡ g x) xs → map f xs ≡ map g xs
map_agree f g [] h = refl
map_agree f g (x ∷ xs) h = rw (h.0, map_agree f g xs h.1)

-- the word of note i in its column
column_get : (f : RawNote → ℕ) (a n r : ℕ) (w : List ℕ) (l : List RawNote) (i : ℕ) → f no_note ≡ 0 → r ≤ n → take r (part a n w) ≡ map f l → i < r
    → get_or w (a + i) 0 ≡ f (get_or l i no_note)
column_get f a n r w l i z h e b =
    sym (get_or-take r (part a n w) i 0 b ∙ get_or-take n (drop a w) i 0 (omega arith) ∙ get_or-drop a w i 0)
    ∙ ap (λ (v : List ℕ). get_or v i 0) e
    ∙ ap (get_or (map f l) i) (sym z)
    ∙ get_or-map f l i no_note

-- what was sorted are places of notes
pub places_small : {w w' : List ℕ} {n r : ℕ} {kb : ℕ} → Placed w w' r kb → r ≤ n → All (λ p. p < n) (take r w')
places_small {w} {w'} {n} {r} {kb} s h =
    rw s.front (All-sort (key_of (drop kb w)) (λ p. p < n) (count 0 r) (All-count (λ p. p < n) 0 r (λ i _ b. omega arith)))

module _ {w w' w'' : List ℕ} {n r : ℕ} {l : List RawNote} (p : Listed n r w l) (s : Placed w w' r (2 * n)) (g : Gathered w' w'' n r) where
  in_order : map (λ i. get_or l i no_note) (take r w') ≡ sort_by by_start l
  unfolding no_note
  in_order =
      rw (s.front, p.count)
      (sort_places no_note by_start l (drop (2 * n) w)
      (λ i h. get_or-drop (2 * n) w i 0 ∙ column_get start_word (2 * n) n r w l i refl p.room p.starts (omega (arith, p.count))))

  -- a column of words, in order
  column : (f : RawNote → ℕ) (a : ℕ) → f no_note ≡ 0 → 2 * n ≤ a → take r (part a n w) ≡ map f l
      → map (λ q. get_or w' (a + q) 0) (take r w') ≡ map f (sort_by by_start l)
  column f a z h e =
      map_agree (λ q. get_or w' (a + q) 0) (λ q. f (get_or l q no_note)) (take r w')
      (All-imp (λ q b. same (a + q) (omega arith) ∙ column_get f a n r w l q z p.room e b) (take r w') (places_small s (omega arith)))
      ∙ sym (map-map f (λ q. get_or l q no_note) (take r w'))
      ∙ ap (map f) in_order
    where
      same : (j : ℕ) → 2 * n ≤ j → get_or w' j 0 ≡ get_or w j 0
      same j b =
          let q : j ≡ 2 * n + (j - 2 * n) = omega arith in
          rw q (sym (get_or-drop (2 * n) w' (j - 2 * n) 0) ∙ ap (λ (v : List ℕ). get_or v (j - 2 * n) 0) s.keys ∙ get_or-drop (2 * n) w (j - 2 * n) 0)

  noted : (es : List Event) → l ≡ closing (pairing (note_events es)) (last_tick es) → Noted es n r w''
  unfolding raw_notes_of no_note
  noted es e =
      record {
        count = p.count ∙ sym (length_sort by_start l) ∙ ap (λ (k : List RawNote). length (sort_by by_start k)) e;
        room = p.room;
        ends =
            take-take r n w'' p.room
            ∙ g.ends
            ∙ column end_word (3 * n) refl (omega arith) p.ends
            ∙ ap (λ (k : List RawNote). map end_word (sort_by by_start k)) e;
        starts =
            take-take r n (drop n w'') p.room
            ∙ g.starts
            ∙ column start_word (2 * n) refl (omega arith) p.starts
            ∙ ap (λ (k : List RawNote). map start_word (sort_by by_start k)) e;
      }

pub collected : {h h' t : List (List ℕ)} {v w w' w'' : List ℕ} {n : ℕ} {es : List Event} {s : Seen} → PairedAll h t v es n s
    → AllClosed h' w n s.starts s.tick (pairing (note_events es)) → Placed w w' s.starts (2 * n) → Gathered w' w'' n s.starts
    → Noted es n s.starts w''
collected {es = es} p q f g = noted q.listed f g es (ap (closing (pairing (note_events es))) p.tick)
