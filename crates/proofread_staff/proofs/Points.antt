-- Section 8's points voice by voice: a staff is right exactly if each of its four voices is, and every note is found.
use Prim.Native.Nat.{ℕ, ◌+◌}
use mathlib.Core.Bool.{Bool, true, false, ◌&&◌, and_assoc}
use mathlib.Core.List.{List, [], ◌∷◌, ◌++◌, map}
use mathlib.Core.Option.{none}
use mathlib.Core.Path.{◌≡◌, refl, sym, ap, ◌∙◌}
use native.Mathlib.Omega.{arith}
use lib.ListN.{length}
use Rattle.rules.specs.Lists.{All, every}
use Rattle.rules.specs.RawNotes.{RawNote}
use Rattle.rules.specs.Bars.{Bar, last_bar_end}
use Rattle.rules.specs.Grid.{snapped}
use Rattle.rules.specs.Items.{Item, Staff}
use Rattle.rules.specs.ProofReader.{Timed, timed_from, voice_items, voice_timed, Played, playback, played, item_ticks}
use Rattle.rules.specs.ProofReaderTests.{staff_value?, fill?, empty_or_fill?, full?, clean?, tied?, ties?, note_found?, keys_meant?, ends_meant?, right?}
use Rattle.laws.specs.Says.{Says}
use Rattle.laws.proofs.Lists.{by_four}
use Rattle.laws.proofs.Reflection.{says_flag, says_true, says_and, says_and4, says_as}
use Rattle.proofread_notes.proofs.Meant.{says_same}
use Rattle.proofread_voices.specs.Voices.{voice_run, silent, voice_ok?}
use Rattle.proofread_staff.proofs.Hearing.{and_cross, good_item?, full_in?, voice_points}

-- ---- staffs of four voices a bar

pub record Fours (bs : List Bar) (st : Staff) : Type 0 where
  pub same : length st ≡ length bs
  pub four : All (λ (bar : List (List Item)). length bar ≡ 4) st

-- voice v passes a test in every bar
abbrev in_bars? : (List Item → Bool) → ℕ → Staff → Bool
in_bars? f v st = every (λ (bar : List (List Item)). f (voice_items v bar)) st

four_every : (f : List Item → Bool) (bar : List (List Item)) → length bar ≡ 4
    → every f bar ≡ (f (voice_items 0 bar) && (f (voice_items 1 bar) && (f (voice_items 2 bar) && (f (voice_items 3 bar) && true))))
unfolding every
four_every f =
    by_four (λ bar. every f bar ≡ (f (voice_items 0 bar) && (f (voice_items 1 bar) && (f (voice_items 2 bar) && (f (voice_items 3 bar) && true)))))
    (λ a b c d. refl)

-- one test of each voice in front of those of the bars that follow
in_front : (a b c d A B C D : Bool) → ((a && (b && (c && (d && true)))) && (A && B && C && D)) ≡ ((a && A) && (b && B) && (c && C) && (d && D))
in_front a b c d A B C D =
    says_same
    (says_and (says_and (says_flag a) (says_and (says_flag b) (says_and (says_flag c) (says_and (says_flag d) says_true))))
    (says_and4 (says_flag A) (says_flag B) (says_flag C) (says_flag D)))
    (says_as
    (says_and4 (says_and (says_flag a) (says_flag A)) (says_and (says_flag b) (says_flag B)) (says_and (says_flag c) (says_flag C))
    (says_and (says_flag d) (says_flag D))) (
      λ x. ((x.0.0, (x.1.0, (x.2.0, (x.3.0, tt)))), (x.0.1, x.1.1, x.2.1, x.3.1)),
      λ x. ((x.0.0, x.1.0), (x.0.1.0, x.1.1), (x.0.1.1.0, x.1.2), (x.0.1.1.1.0, x.1.3)),
    ))

by_voices : (f : List Item → Bool) (st : Staff) → All (λ (bar : List (List Item)). length bar ≡ 4) st
    → every (every f) st ≡ (in_bars? f 0 st && in_bars? f 1 st && in_bars? f 2 st && in_bars? f 3 st)
unfolding every
by_voices f [] h = refl
by_voices f (bar ∷ st) h =
    (λ i. four_every f bar h.0 i && by_voices f st h.1 i)
    ∙ in_front (f (voice_items 0 bar)) (f (voice_items 1 bar)) (f (voice_items 2 bar)) (f (voice_items 3 bar)) (in_bars? f 0 st) (in_bars? f 1 st)
    (in_bars? f 2 st) (in_bars? f 3 st)

-- ---- values, and rests and keys

both : {A : Type 0} (f g : A → Bool) (xs : List A) → every (λ x. f x && g x) xs ≡ (every f xs && every g xs)
unfolding every
both f g [] = refl
both f g (x ∷ xs) = ap (λ (b : Bool). (f x && g x) && b) (both f g xs) ∙ and_cross (f x) (g x) (every f xs) (every g xs)

every_append : {A : Type 0} (f : A → Bool) (xs ys : List A) → every f (xs ++ ys) ≡ (every f xs && every f ys)
unfolding every
every_append f [] ys = refl
every_append f (x ∷ xs) ys = ap (λ (b : Bool). f x && b) (every_append f xs ys) ∙ sym (and_assoc (f x) (every f xs) (every f ys))

every_timed : (f : Item → Bool) (p t : ℕ) (is : List Item) → every (λ (x : Timed). f x.item) (timed_from p t is) ≡ every f is
unfolding every timed_from
every_timed f p t [] = refl
every_timed f p t (i ∷ is) = ap (λ (b : Bool). f i && b) (every_timed f p (t + item_ticks p i) is)

every_voice : (f : Item → Bool) (p v : ℕ) (bs : List Bar) (st : Staff) → length st ≡ length bs
    → every (λ (x : Timed). f x.item) (voice_timed p v bs st) ≡ in_bars? (every f) v st
unfolding every voice_timed
every_voice f p v [] [] h = refl
every_voice f p v [] (bar ∷ st) h = absurd (omega arith)
every_voice f p v (b ∷ bs) [] h = absurd (omega arith)
every_voice f p v (b ∷ bs) (bar ∷ st) h =
    every_append (λ (x : Timed). f x.item) (timed_from p b.start (voice_items v bar)) (voice_timed p v bs st)
    ∙ (λ i. every_timed f p b.start (voice_items v bar) i && every_voice f p v bs st (omega arith) i)

same_test : {A : Type 0} (f g : A → Bool) → ((x : A) → f x ≡ g x) → (xs : List A) → every f xs ≡ every g xs
unfolding every
same_test f g h [] = refl
same_test f g h (x ∷ xs) = λ i. h x i && same_test f g h xs i

good_voice : (p v : ℕ) (bs : List Bar) (st : Staff) → length st ≡ length bs
    → every (λ (t : Timed). good_item? p 0 [] t.item) (voice_timed p v bs st) ≡ (in_bars? (every (staff_value? p)) v st && in_bars? (every clean?) v st)
good_voice p v bs st h =
    every_voice (λ i. staff_value? p i && clean? i) p v bs st h
    ∙ same_test (λ bar. every (λ i. staff_value? p i && clean? i) (voice_items v bar))
    (λ bar. every (staff_value? p) (voice_items v bar) && every clean? (voice_items v bar)) (λ bar. both (staff_value? p) clean? (voice_items v bar)) st
    ∙ both (λ (bar : List (List Item)). every (staff_value? p) (voice_items v bar)) (λ bar. every clean? (voice_items v bar)) st

-- ---- full bars

fill_some : (p : ℕ) (b : Bar) (is : List Item) → fill? p b is ≡ true → empty_or_fill? p b is ≡ true
fill_some p b [] h = refl
fill_some p b (i ∷ is) h = h

-- voice 0 fills its bar, and so is empty or fills it
front_voice : (p : ℕ) (b : Bar) (is : List Item) (x : Bool) → (fill? p b is && (empty_or_fill? p b is && x)) ≡ (fill? p b is && x)
front_voice p b is x = by (fill? p b is) refl
  where
    by : (f : Bool) → fill? p b is ≡ f → (fill? p b is && (empty_or_fill? p b is && x)) ≡ (fill? p b is && x)
    by true h = rw (h, fill_some p b is h)
    by false h = rw h

full_voices : (p e : ℕ) (ns : List RawNote) (bs : List Bar) (st : Staff) → Fours bs st
    → full? p bs st ≡ (full_in? p e ns 0 bs st && full_in? p e ns 1 bs st && full_in? p e ns 2 bs st && full_in? p e ns 3 bs st)
unfolding full? full_in?
full_voices p e ns [] [] h = refl
full_voices p e ns [] (bar ∷ st) h = let s = h.same in absurd (omega arith)
full_voices p e ns (b ∷ bs) [] h = let s = h.same in absurd (omega arith)
full_voices p e ns (b ∷ bs) (bar ∷ st) h =
    let f : ℕ → Bool = λ v. empty_or_fill? p b (voice_items v bar) in
    let rest : Fours bs st = record { same = let s = h.same in omega arith; four = h.four.1 } in
    let later : Bool = f 1 && (f 2 && (f 3 && true)) in
    (λ i. (fill? p b (voice_items 0 bar) && four_every (empty_or_fill? p b) bar h.four.0 i) && full_voices p e ns bs st rest i)
    ∙ ap (λ (x : Bool). x && (full_in? p e ns 0 bs st && full_in? p e ns 1 bs st && full_in? p e ns 2 bs st && full_in? p e ns 3 bs st))
    (front_voice p b (voice_items 0 bar) later)
    ∙ in_front (fill? p b (voice_items 0 bar)) (f 1) (f 2) (f 3) (full_in? p e ns 0 bs st) (full_in? p e ns 1 bs st) (full_in? p e ns 2 bs st)
    (full_in? p e ns 3 bs st)

-- ---- the voices together

-- the tests of six points, each over four voices, as one test a voice
regroup : (a f k t m n : ℕ → Bool) (found : Bool)
    → ((a 0 && a 1 && a 2 && a 3) && (f 0 && f 1 && f 2 && f 3) && (k 0 && k 1 && k 2 && k 3) && (t 0 && (t 1 && (t 2 && (t 3 && true)))) && found
    && (m 0 && (m 1 && (m 2 && (m 3 && true)))) && (n 0 && (n 1 && (n 2 && (n 3 && true)))))
    ≡ ((((a 0 && k 0) && f 0 && t 0 && (m 0 && n 0)) && ((a 1 && k 1) && f 1 && t 1 && (m 1 && n 1))
    && ((a 2 && k 2) && f 2 && t 2 && (m 2 && n 2)) && ((a 3 && k 3) && f 3 && t 3 && (m 3 && n 3)))
    && found)
regroup a f k t m n found =
    says_same
    (says_and (says_and (says_and (says_and (says_and (says_and (four a) (four f)) (four k)) (row t)) (says_flag found)) (row m)) (row n))
    (says_as (says_and (says_and4 (voice 0) (voice 1) (voice 2) (voice 3)) (says_flag found)) (
      λ x.
          let v₀ = x.0.0 in
          let v₁ = x.0.1 in
          let v₂ = x.0.2 in
          let v₃ = x.0.3 in (
            (
              (
                (
                  (
                    (
                      (v₀.0.0, v₁.0.0, v₂.0.0, v₃.0.0),
                      (v₀.1, v₁.1, v₂.1, v₃.1),
                    ),
                    (v₀.0.1, v₁.0.1, v₂.0.1, v₃.0.1),
                  ),
                  (v₀.2, (v₁.2, (v₂.2, (v₃.2, tt)))),
                ),
                x.1,
              ),
              (v₀.3.0, (v₁.3.0, (v₂.3.0, (v₃.3.0, tt)))),
            ),
            (v₀.3.1, (v₁.3.1, (v₂.3.1, (v₃.3.1, tt)))),
          ),
      λ x.
          let n' = x.1 in
          let m' = x.0.1 in
          let t' = x.0.0.0.1 in
          let k' = x.0.0.0.0.1 in
          let f' = x.0.0.0.0.0.1 in
          let a' = x.0.0.0.0.0.0 in (
            (
              ((a'.0, k'.0), f'.0, t'.0, (m'.0, n'.0)),
              ((a'.1, k'.1), f'.1, t'.1.0, (m'.1.0, n'.1.0)),
              ((a'.2, k'.2), f'.2, t'.1.1.0, (m'.1.1.0, n'.1.1.0)),
              ((a'.3, k'.3), f'.3, t'.1.1.1.0, (m'.1.1.1.0, n'.1.1.1.0)),
            ),
            x.0.0.1,
          ),
    ))
  where
    four : (x : ℕ → Bool) → Says (x 0 && x 1 && x 2 && x 3) ((x 0 ≡ true) × (x 1 ≡ true) × (x 2 ≡ true) × (x 3 ≡ true))
    four x = says_and4 (says_flag (x 0)) (says_flag (x 1)) (says_flag (x 2)) (says_flag (x 3))

    row : (x : ℕ → Bool) → Says (x 0 && (x 1 && (x 2 && (x 3 && true)))) ((x 0 ≡ true) × ((x 1 ≡ true) × ((x 2 ≡ true) × ((x 3 ≡ true) × Unit {0}))))
    row x = says_and (says_flag (x 0)) (says_and (says_flag (x 1)) (says_and (says_flag (x 2)) (says_and (says_flag (x 3)) says_true)))

    voice : (v : ℕ)
        → Says ((a v && k v) && f v && t v && (m v && n v)) (((a v ≡ true) × (k v ≡ true)) × (f v ≡ true) × (t v ≡ true) × ((m v ≡ true) × (n v ≡ true)))
    voice v = says_and4 (says_and (says_flag (a v)) (says_flag (k v))) (says_flag (f v)) (says_flag (t v)) (says_and (says_flag (m v)) (says_flag (n v)))

module _ (p g : ℕ) (notes : List RawNote) (bs : List Bar) (st : Staff) (h : Fours bs st) where
  -- voice v's answer
  abbrev pub voice? : ℕ → List Played → Bool
  voice? v base = voice_ok? (last_bar_end bs) (map (snapped g) notes) (voice_run p (last_bar_end bs) (map (snapped g) notes) v (silent base) bs st)

  point : (v : ℕ) (base : List Played)
      → voice? v base
      ≡ ((in_bars? (every (staff_value? p)) v st && in_bars? (every clean?) v st) && full_in? p (last_bar_end bs) (map (snapped g) notes) v bs st
      && tied? (last_bar_end bs) none (voice_timed p v bs st)
      && (every (keys_meant? (last_bar_end bs) (map (snapped g) notes)) (playback (voice_timed p v bs st))
      && ends_meant? (last_bar_end bs) (map (snapped g) notes) (playback (voice_timed p v bs st))))
  point v base =
      voice_points p (last_bar_end bs) (map (snapped g) notes) v base bs st
      ∙ ap (λ (b : Bool). b && full_in? p (last_bar_end bs) (map (snapped g) notes) v bs st && tied? (last_bar_end bs) none (voice_timed p v bs st)
      && (every (keys_meant? (last_bar_end bs) (map (snapped g) notes)) (playback (voice_timed p v bs st))
      && ends_meant? (last_bar_end bs) (map (snapped g) notes) (playback (voice_timed p v bs st))))
      (good_voice p v bs st h.same)

  -- A staff is right exactly if its four voices are and each note is found; whatever was heard before each voice.
  pub right_by_voices : (b₀ b₁ b₂ b₃ : List Played)
      → right? p g notes bs st
      ≡ ((voice? 0 b₀ && voice? 1 b₁ && voice? 2 b₂ && voice? 3 b₃) && every (note_found? (last_bar_end bs) (played p bs st)) (map (snapped g) notes))
  unfolding right? every
  right_by_voices b₀ b₁ b₂ b₃ =
      (λ i.
      by_voices (every (staff_value? p)) st h.four i
      && full_voices p (last_bar_end bs) (map (snapped g) notes) bs st h i
      && by_voices (every clean?) st h.four i
      && ties? p bs st
      && every (note_found? (last_bar_end bs) (played p bs st)) (map (snapped g) notes)
      && every (every (keys_meant? (last_bar_end bs) (map (snapped g) notes))) (played p bs st)
      && every (ends_meant? (last_bar_end bs) (map (snapped g) notes)) (played p bs st))
      ∙ regroup (λ v. in_bars? (every (staff_value? p)) v st) (λ v. full_in? p (last_bar_end bs) (map (snapped g) notes) v bs st) (λ v. in_bars? (every clean?) v st)
      (λ v. tied? (last_bar_end bs) none (voice_timed p v bs st))
      (λ v. every (keys_meant? (last_bar_end bs) (map (snapped g) notes)) (playback (voice_timed p v bs st)))
      (λ v. ends_meant? (last_bar_end bs) (map (snapped g) notes) (playback (voice_timed p v bs st)))
      (every (note_found? (last_bar_end bs) (played p bs st)) (map (snapped g) notes))
      ∙ sym (λ i. (point 0 b₀ i && point 1 b₁ i && point 2 b₂ i && point 3 b₃ i) && every (note_found? (last_bar_end bs) (played p bs st)) (map (snapped g) notes))
