-- The chords of the notes so far stand in the area, the most recent last: what a backward search finds there, and what a note does.
use Prim.Native.Nat.{ℕ, zero, suc, ◌+◌, ◌-◌, ◌*◌, ◌≤◌, ◌<◌, zero-le}
use mathlib.Core.Bool.{true, false}
use mathlib.Core.List.{List, ◌∷◌, ◌++◌, reverse}
use mathlib.Core.Logic.{inl, inr}
use mathlib.Core.Path.{◌≡◌, refl, sym, ap, subst, ◌∙◌}
use native.Mathlib.Numerals.{sub-one}
use native.Mathlib.Omega.{arith}
use borrow.Author.Tests.{eq-eqb, ne_eqb}
use lib.ListN.{length}
use Rattle.rules.specs.RawNotes.{RawNote}
use Rattle.rules.specs.Voices.{Chord, opened, joins, joined, join_or_open}
use Rattle.laws.specs.Sort.{Rises, FallsFrom, count}
use Rattle.laws.proofs.ChordLaws.{chord_start, note_start, gathered}
use Rattle.laws.proofs.Order.{by_eq}
use Rattle.laws.proofs.VoiceSteps.{Past, gathered_falls, join_at, join_none}
use Rattle.laws.specs.Places.{up_to, down}
use Rattle.chords.specs.Columns.{falling_at, chord_at, ChordsIn}
use Rattle.chords.specs.Steps.{Same, Stored, Takes}
use Rattle.laws.proofs.Places.{up_to_more, up_to_split, down_same, down_more, down_split, down_none, reverse_down, foldl_more}

-- ---- chords given place by place, most recent first
other_start : (a : ℕ) (f : ℕ → Chord) (i : ℕ) → (0 < i → (f (i - 1)).start ≡ a → ⊥) → Past a (down f i)
unfolding down
other_start a f zero p = tt
other_start a f (suc i) p = rw sub-one at (p (omega arith))

module _ (x : RawNote) (f : ℕ → Chord) (m : ℕ) where
  -- no chord from place i on joins, and the one before it has another start, or there is none: the note opens one
  pub opens_one : (i : ℕ) → i ≤ m → ((j : ℕ) → i ≤ j → j < m → joins x (f j) ≡ false) → (0 < i → (f (i - 1)).start ≡ x.start → ⊥)
      → FallsFrom chord_start x.start (down f m) → join_or_open (down f m) x ≡ opened x ∷ down f m
  opens_one i h none past falls =
      let e : m ≡ i + (m - i) = omega arith in
      let split : down f m ≡ down (λ j. f (i + j)) (m - i) ++ down f i = ap (down f) e ∙ down_split f i (m - i) in
      let front = down_none (joins x) (λ j. f (i + j)) (m - i) (λ j l. none (i + j) (omega arith) (omega arith)) in
      rw split
      (join_none x (down (λ j. f (i + j)) (m - i)) (down f i) front (subst (FallsFrom chord_start x.start) split falls)
      (other_start x.start f i past))

  -- the chord at place i joins, and none behind it: it takes the note
  pub joins_one : (i : ℕ) → i < m → joins x (f i) ≡ true → ((j : ℕ) → i < j → j < m → joins x (f j) ≡ false)
      → (g : ℕ → Chord) → g i ≡ joined x (f i) → ((j : ℕ) → j < m → (j ≡ i → ⊥) → g j ≡ f j) → down g m ≡ join_or_open (down f m) x
  joins_one i h t none g here there =
      let front = down_none (joins x) (λ j. f (i + 1 + j)) k (λ j l. none (i + 1 + j) (omega arith) (omega arith)) in
      let below = down_same g f i (λ j l. there j (omega arith) (λ z. omega arith)) in
      let above = down_same (λ j. g (i + 1 + j)) (λ j. f (i + 1 + j)) k (λ j l. there (i + 1 + j) (omega arith) (λ z. omega arith)) in
      split g
      ∙ rw (here, below, above)
      (sym (join_at x (down (λ j. f (i + 1 + j)) k) (f i) (down f i) front t) ∙ ap (λ (l : List Chord). join_or_open l x) (sym (split f)))
    where
      k : ℕ
      k = m - (i + 1)

      split : (q : ℕ → Chord) → down q m ≡ down (λ j. q (i + 1 + j)) k ++ (q i ∷ down q i)
      split q = let e : m ≡ i + 1 + k = omega arith in ap (down q) e ∙ down_split q (i + 1) k ∙ rw (down_more q i)

-- ---- the search

-- no chord from place i on joins the note x
pub record Searching (n m i : ℕ) (x : RawNote) (w : List ℕ) : Type 0 where
  pub within : i ≤ m
  pub none : (j : ℕ) → i ≤ j → j < m → joins x (chord_at n w j) ≡ false

pub searching_none : (n m : ℕ) (x : RawNote) (w : List ℕ) → Searching n m m x w
searching_none n m x w = record { within = omega arith; none = λ j l h. absurd (omega arith) }

module _ {n m i : ℕ} {x : RawNote} {w : List ℕ} where
  pub searching_on : Searching n m i x w → 0 < i → (chord_at n w (i - 1)).start ≡ x.start → ((chord_at n w (i - 1)).end ≡ x.end → ⊥)
      → Searching n m (i - 1) x w
  searching_on s h p q =
      record {
        within = let l = s.within in omega arith;
        none = λ j l k.
            elim (by_eq j (i - 1)) [
              | inl e ↦ rw (e, eq-eqb (chord_at n w (i - 1)).start x.start p, ne_eqb (chord_at n w (i - 1)).end x.end q)
              | inr e ↦ s.none j (omega arith) k
            ];
      }

  pub found_none : Searching n m i x w → FallsFrom chord_start x.start (down (chord_at n w) m) → (0 < i → (chord_at n w (i - 1)).start ≡ x.start → ⊥)
      → join_or_open (down (chord_at n w) m) x ≡ opened x ∷ down (chord_at n w) m
  found_none s f p = opens_one x (chord_at n w) m i s.within s.none p f

  pub found_one : Searching n m i x w → 0 < i → (chord_at n w (i - 1)).start ≡ x.start → (chord_at n w (i - 1)).end ≡ x.end → Takes n m (i - 1) x w
  found_one s h p q =
      let l = s.within in
      record {
        within = omega arith;
        here = rw (eq-eqb (chord_at n w (i - 1)).start x.start p) (eq-eqb (chord_at n w (i - 1)).end x.end q);
        none = λ j k o. s.none j (omega arith) o;
      }

-- ---- the notes

-- the first k notes are in m chords, and the notes stand as they did
pub record Gathering (n count m k : ℕ) (w w' : List ℕ) : Type 0 where
  pub kept : length w' ≡ length w
  pub upto : k ≤ count
  pub few : m ≤ k
  pub notes : Same 0 (5 * n) w w'
  pub so_far : down (chord_at n w') m ≡ gathered (up_to (falling_at n w) k)

pub gathering_none : (n count : ℕ) (w : List ℕ) → Gathering n count 0 0 w w
unfolding down count
gathering_none n count w = record { kept = refl; upto = zero-le; few = zero-le; notes = λ j _ _. refl; so_far = refl }

module _ {n count m k : ℕ} {w w' : List ℕ} {x : RawNote} (room : count ≤ n) (g : Gathering n count m k w w') (h : k < count)
    (is : x ≡ falling_at n w' k) where
  note_is : x ≡ falling_at n w k
  note_is = is ∙ rw (g.notes (n + k) zero-le (omega arith), g.notes k zero-le (omega arith))

  pub before_falls : Rises note_start (up_to (falling_at n w) count) → FallsFrom chord_start x.start (down (chord_at n w') m)
  before_falls r =
      rw (g.so_far, note_is)
      (gathered_falls (up_to (falling_at n w) k) (falling_at n w k) _ (subst (Rises note_start) (up_to_split (falling_at n w) k count h) r))

  -- the chords with the note in them
  one_more : join_or_open (down (chord_at n w') m) x ≡ gathered (up_to (falling_at n w) (k + 1))
  one_more = rw (g.so_far, note_is, up_to_more, foldl_more)

  pub gathering_open : {w₂ : List ℕ} → join_or_open (down (chord_at n w') m) x ≡ opened x ∷ down (chord_at n w') m → Stored n m (opened x) w' w₂
      → Gathering n count (m + 1) (k + 1) w w₂
  gathering_open {w₂} opens s =
      let few = g.few in
      record {
        kept = s.kept ∙ g.kept;
        upto = omega arith;
        few = omega arith;
        notes = λ j l o. s.front j l o ∙ g.notes j l o;
        so_far =
            down_more (chord_at n w₂) m
            ∙ rw (s.here, down_same (chord_at n w₂) (chord_at n w') m (λ j l. s.there j (omega arith) (λ z. omega arith))) (sym opens ∙ one_more);
      }

  pub gathering_join : {at : ℕ} {w₂ : List ℕ} → Takes n m at x w' → Stored n at (joined x (chord_at n w' at)) w' w₂
      → Gathering n count m (k + 1) w w₂
  gathering_join {at} {w₂} f s =
      let few = g.few in
      let within = f.within in
      record {
        kept = s.kept ∙ g.kept;
        upto = omega arith;
        few = omega arith;
        notes = λ j l o. s.front j l o ∙ g.notes j l o;
        so_far =
            joins_one x (chord_at n w') m at (omega arith) f.here f.none (chord_at n w₂) s.here (λ j l d. s.there j (omega arith) d) ∙ one_more;
      }

pub gathering_end : {n count m k : ℕ} {w w' : List ℕ} → count ≤ n → count ≤ k → Gathering n count m k w w'
    → ChordsIn (reverse (gathered (up_to (falling_at n w) count))) n m w'
gathering_end {n} {count} {m} {k} {w} {w'} room h g =
    let upto = g.upto in
    let few = g.few in
    let e : k ≡ count = omega arith in
    record {
      room = omega arith;
      chords = sym (reverse_down (chord_at n w') m) ∙ ap reverse g.so_far ∙ ap (λ (j : ℕ). reverse (gathered (up_to (falling_at n w) j))) e;
    }
