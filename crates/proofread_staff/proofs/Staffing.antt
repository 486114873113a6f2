-- The four voices one after the other, and the notes that are found in them.
use Prim.Native.Nat.{ℕ, zero, suc, ◌+◌, ◌-◌, ◌*◌, ◌≤◌, ◌<◌}
use mathlib.Core.Bool.{Bool, true, false, not, ◌&&◌, ◌||◌, and-false, or_assoc, or_comm, or-false}
use mathlib.Core.List.{List, [], ◌∷◌, ◌++◌, map, reverse, reverse-cons}
use mathlib.Core.Path.{◌≡◌, refl, sym, ap, subst, ◌∙◌}
use native.Mathlib.Nat.{zero-add, suc-add}
use native.Mathlib.Numerals.{add-one}
use native.Mathlib.Omega.{arith}
use lib.Dec.{eqb, ltb}
use lib.ListN.{length, get_or, take, drop, length-drop}
use Rattle.rules.specs.Lists.{All, every, any, sum}
use Rattle.rules.specs.RawNotes.{RawNote}
use Rattle.rules.specs.Bars.{Bar, last_bar_end}
use Rattle.rules.specs.Grid.{snapped}
use Rattle.rules.specs.Items.{Item, Staff, cut_by, by_fours, read_items, read_staff}
use Rattle.rules.specs.ProofReader.{voice_timed, Played, heard_after, played}
use Rattle.rules.specs.ProofReaderTests.{note_found?, right?}
use Rattle.laws.specs.Sort.{count}
use Rattle.laws.proofs.Tests.{every_map, flag_is}
use Rattle.proofread_notes.specs.Columns.{raw_at, snap_at, notes_at, Same, Marks, hears?, found?, all_found?}
use Rattle.proofread_notes.proofs.Areas.{same_self, same_then, notes_same}
use Rattle.proofread_voices.specs.Voices.{voice_run, silent, voice_ok?, ReadsVoice}
use Rattle.proofread_voices.proofs.BarItems.{four_cut}
use Rattle.proofread_staff.specs.Staffs.{raws_at}
use Rattle.proofread_staff.proofs.Hearing.{voice_chords}
use Rattle.proofread_staff.proofs.Points.{Fours, right_by_voices}

-- ---- four voices a bar

fours : (k : ℕ) (cs : List ℕ) (xs : List Item) → length cs ≡ 4 * k
    → (length (by_fours (cut_by cs xs)) ≡ k) × All (λ (bar : List (List Item)). length bar ≡ 4) (by_fours (cut_by cs xs))
unfolding by_fours cut_by
fours zero [] xs h = (refl, tt)
fours zero (c ∷ cs) xs h = absurd (omega arith)
fours (suc k) cs xs h =
    let more = fours k (drop 4 cs) (drop (sum (take 4 cs)) xs) (simp length-drop (omega arith)) in
    rw (four_cut cs xs (omega arith)) (ap suc more.0, (refl, more.1))

pub fours_read : (bs : List Bar) (counts hs ks : List ℕ) → length counts ≡ 4 * length bs
    → Fours bs (read_staff (record { counts = counts; heads = hs; keys = ks }))
fours_read bs counts hs ks h = let x = fours (length bs) counts (read_items hs ks) h in record { same = x.0; four = x.1 }

-- ---- notes found

any_append : {A : Type 0} (f : A → Bool) (xs ys : List A) → any f (xs ++ ys) ≡ (any f xs || any f ys)
unfolding any
any_append f [] ys = refl
any_append f (x ∷ xs) ys = ap (λ (b : Bool). f x || b) (any_append f xs ys) ∙ sym (or_assoc (f x) (any f xs) (any f ys))

any_reverse : {A : Type 0} (f : A → Bool) (xs : List A) → any f (reverse xs) ≡ any f xs
unfolding any
any_reverse f [] = refl
any_reverse f (x ∷ xs) =
    ap (any f) (reverse-cons x xs) ∙ any_append f (reverse xs) (x ∷ [])
    ∙ (λ i. any_reverse f xs i || or-false (f x) i) ∙ or_comm (any f xs) (f x)

four_or : (a b c d : Bool) → (d || (c || (b || (a || false)))) ≡ (a || (b || (c || (d || false))))
four_or true true true true = refl
four_or true true true false = refl
four_or true true false true = refl
four_or true true false false = refl
four_or true false true true = refl
four_or true false true false = refl
four_or true false false true = refl
four_or true false false false = refl
four_or false true true true = refl
four_or false true true false = refl
four_or false true false true = refl
four_or false true false false = refl
four_or false false true true = refl
four_or false false true false = refl
four_or false false false true = refl
four_or false false false false = refl

module _ (p : ℕ) (bs : List Bar) (st : Staff) where
  -- the chords of the first v voices
  unfoldable pub chords_up_to : ℕ → List Played
  chords_up_to zero = []
  chords_up_to (suc v) = heard_after [] (voice_timed p v bs st) ++ chords_up_to v

  heard_anywhere : (f : Played → Bool) → any f (chords_up_to 4) ≡ any (any f) (played p bs st)
  unfolding chords_up_to any
  heard_anywhere f =
      let h : ℕ → List Played = λ v. heard_after [] (voice_timed p v bs st) in
      any_append f (h 3) (h 2 ++ (h 1 ++ (h 0 ++ [])))
      ∙ ap (λ (b : Bool). any f (h 3) || b) (any_append f (h 2) (h 1 ++ (h 0 ++ []))
      ∙ ap (λ (b : Bool). any f (h 2) || b) (any_append f (h 1) (h 0 ++ [])
      ∙ ap (λ (b : Bool). any f (h 1) || b) (any_append f (h 0) [])))
      ∙ four_or (any f (h 0)) (any f (h 1)) (any f (h 2)) (any f (h 3))
      ∙ sym (λ i. any_reverse f (h 0) i || (any_reverse f (h 1) i || (any_reverse f (h 2) i || (any_reverse f (h 3) i || false))))

every_count : (f g : ℕ → Bool) (k a : ℕ) → ((j : ℕ) → a ≤ j → j < a + k → f j ≡ g j) → every f (count a k) ≡ every g (count a k)
unfolding every count
every_count f g zero a h = refl
every_count f g (suc k) a h = λ i. h a (omega arith) (omega arith) i && every_count f g k (suc a) (λ j l o. h j (omega arith) (omega arith)) i

-- the marks of all chords say which notes are found
pub found_is : (p : ℕ) (bs : List Bar) (st : Staff) (g n m e : ℕ) (w : List ℕ) → Marks g n m w (chords_up_to p bs st 4)
    → all_found? g n m e w ≡ every (note_found? e (played p bs st)) (notes_at g n m w)
found_is p bs st g n m e w k =
    every_count (found? g n e w) (λ i. note_found? e (played p bs st) (snap_at g n w i)) m 0
    (λ j a b. ap (λ (x : Bool). not (ltb (snap_at g n w j).start e) || x)
    (ap (λ (x : ℕ). eqb x 1) (k.mark j (omega arith))
    ∙ flag_is (any (hears? (snap_at g n w j)) (chords_up_to p bs st 4))
    ∙ heard_anywhere p bs st (hears? (snap_at g n w j))))
    ∙ sym (every_map (note_found? e (played p bs st)) (snap_at g n w) (count 0 m))

pub notes_snapped : (g n m : ℕ) (w : List ℕ) → notes_at g n m w ≡ map (snapped g) (raws_at n m w)
notes_snapped g n m w = twice (count 0 m)
  where
    twice : (is : List ℕ) → map (snap_at g n w) is ≡ map (snapped g) (map (raw_at n w) is)
    twice [] = refl
    twice (i ∷ is) = ap (λ (l : List RawNote). snap_at g n w i ∷ l) (twice is)

-- ---- voice after voice

module _ (p e : ℕ) (ns : List RawNote) (bs : List Bar) (st : Staff) where
  -- voice v's answer, after the voices before it
  abbrev pub answer : ℕ → Bool
  answer v = voice_ok? e ns (voice_run p e ns v (silent (chords_up_to p bs st v)) bs st)

  unfoldable pub voices_up_to : ℕ → Bool
  voices_up_to zero = true
  voices_up_to (suc v) = voices_up_to v && answer v

  stays_false : (k v : ℕ) → voices_up_to v ≡ false → voices_up_to (k + v) ≡ false
  unfolding voices_up_to
  stays_false zero v h = ap voices_up_to (zero-add v) ∙ h
  stays_false (suc k) v h = ap voices_up_to (suc-add k v) ∙ rw (stays_false k v h)

  next_false : (v : ℕ) → v < 4 → answer v ≡ false → voices_up_to 4 ≡ false
  unfolding voices_up_to
  next_false v l h =
      let q : 3 - v + suc v ≡ 4 = omega arith in
      sym (ap voices_up_to q) ∙ stays_false (3 - v) (suc v) (rw h (and-false (voices_up_to v)))

  next_true : (v : ℕ) → voices_up_to v ≡ true → answer v ≡ true → voices_up_to (v + 1) ≡ true
  unfolding voices_up_to
  next_true v h k = rw add-one (rw (h, k))

-- the first v voices are read, and were right
pub record Voices (g n m e p : ℕ) (bs : List Bar) (st : Staff) (w₁ w : List ℕ) (v : ℕ) : Type 0 where
  pub within : v ≤ 4
  pub area : Same n w₁ w
  pub marks : Marks g n m w (chords_up_to p bs st v)
  pub fine : voices_up_to p e (notes_at g n m w₁) bs st v ≡ true

module _ {g n m e p : ℕ} {bs : List Bar} {st : Staff} {w₁ : List ℕ} where
  pub voices_start : ((i : ℕ) → i < m → get_or w₁ (2 * n + i) 0 ≡ 0) → Voices g n m e p bs st w₁ w₁ 0
  unfolding voices_up_to chords_up_to any
  voices_start h = record { within = omega arith; area = same_self n w₁; marks = record { mark = h }; fine = refl }

  module _ {w w' : List ℕ} {v : ℕ} {r : Bool} (room : m ≤ n) (now : Voices g n m e p bs st w₁ w v) (read : ReadsVoice g n m e p v bs st w w' r) where
    known : notes_at g n m w ≡ notes_at g n m w₁
    known = notes_same now.area g m room

    answered : answer p e (notes_at g n m w₁) bs st v ≡ r
    answered = sym (rw known at (read.ok (chords_up_to p bs st v) now.marks))

    pub voices_more : v < 4 → r ≡ true → Voices g n m e p bs st w₁ w' (v + 1)
    unfolding chords_up_to
    voices_more l y =
        record {
          within = omega arith;
          area = same_then now.area read.same;
          marks =
              rw add-one
              (subst (Marks g n m w') (voice_chords p e (notes_at g n m w) v (chords_up_to p bs st v) bs st) (read.marks y (chords_up_to p bs st v) now.marks));
          fine = next_true p e (notes_at g n m w₁) bs st v now.fine (answered ∙ y);
        }

    voices_false : v < 4 → r ≡ false → voices_up_to p e (notes_at g n m w₁) bs st 4 ≡ false
    voices_false l f = next_false p e (notes_at g n m w₁) bs st v l (answered ∙ f)

-- ---- the whole

module _ (g n m e p : ℕ) (bs : List Bar) (st : Staff) (w₀ w₁ : List ℕ) (room : m ≤ n) (same : Same n w₀ w₁) (h : Fours bs st) (last : e ≡ last_bar_end bs) where
  notes_are : notes_at g n m w₁ ≡ map (snapped g) (raws_at n m w₀)
  notes_are = notes_same same g m room ∙ notes_snapped g n m w₀

  right_is : right? p g (raws_at n m w₀) bs st ≡ (voices_up_to p e (notes_at g n m w₁) bs st 4 && every (note_found? e (played p bs st)) (notes_at g n m w₁))
  unfolding voices_up_to
  right_is =
      rw (last, notes_are)
      (right_by_voices p g (raws_at n m w₀) bs st h (chords_up_to p bs st 0) (chords_up_to p bs st 1) (chords_up_to p bs st 2) (chords_up_to p bs st 3))

  pub staff_fails : {w w' : List ℕ} {v : ℕ} {r : Bool} → v < 4 → Voices g n m e p bs st w₁ w v → ReadsVoice g n m e p v bs st w w' r → r ≡ false
      → false ≡ right? p g (raws_at n m w₀) bs st
  staff_fails l now read f = sym (right_is ∙ rw (voices_false room now read l f))

  pub staff_end : {w : List ℕ} {v : ℕ} {r : Bool} → 4 ≤ v → Voices g n m e p bs st w₁ w v → r ≡ all_found? g n m e w → r ≡ right? p g (raws_at n m w₀) bs st
  staff_end {w} {v} l now a =
      let within = now.within in
      let q : v ≡ 4 = omega arith in
      let fine = subst (λ (k : ℕ). voices_up_to p e (notes_at g n m w₁) bs st k ≡ true) q now.fine in
      let marks = subst (λ (k : ℕ). Marks g n m w (chords_up_to p bs st k)) q now.marks in
      a ∙ found_is p bs st g n m e w marks ∙ rw (notes_same now.area g m room) (sym (right_is ∙ rw fine))
