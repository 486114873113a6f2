-- The chords one after the other, and the voices as they stand when all are placed.
use Prim.Native.Nat.{ℕ, ◌+◌, ◌*◌, ◌^◌, ◌≤◌, ◌<◌, zero-le}
use mathlib.Core.List.{List, [], map, reverse, map-map}
use mathlib.Core.Path.{◌≡◌, refl, sym, ap, subst, ◌∙◌}
use native.Mathlib.Omega.{arith}
use lib.ListN.{length, get_or, take, replicate, get_or-replicate}
use lib.Seq.{get_or-take, length-take-le}
use Rattle.rules.specs.Lists.{All}
use Rattle.rules.specs.Piece.{largest_size}
use Rattle.rules.specs.RawNotes.{RawNote}
use Rattle.rules.specs.Voices.{Voice, chords, voices}
use Rattle.laws.specs.NoteWords.{NotesIn, InRange}
use Rattle.laws.specs.Parts.{part}
use Rattle.laws.specs.Sort.{Rises, count}
use Rattle.laws.proofs.ChordLaws.{note_start, gathered, sorted_rises}
use Rattle.laws.proofs.Lists.{All-get, All-map}
use Rattle.laws.proofs.Parts.{part_get, part_length}
use Rattle.laws.proofs.Sort.{All-count}
use Rattle.laws.proofs.VoiceLaws.{spread, voices_four}
use Rattle.laws.specs.Places.{up_to, down}
use Rattle.chords.specs.Columns.{note_at, falling_at, chord_at, ChordsIn}
use Rattle.chords.specs.Steps.{SortedTo}
use Rattle.chords.proofs.GivenNotes.{notes_read}
use Rattle.laws.proofs.Places.{get_d_map, up_to_length, up_to_get, up_to_is, up_to_more, reverse_down, foldl_more}
use Rattle.voices.specs.Placing.{Lasts, Known, number_at, voice_at, voices_at, Cells, Placed, Spread}
use Rattle.voices.specs.VoicesIn.{VoicesIn}
use Rattle.voices.specs.declared.Voices.{Voices}
use Rattle.voices.proofs.Bounds.{Small, voices_small}
use Rattle.voices.proofs.Cells.{column_end}

-- ---- one chord after the other

-- the first k chords are placed, and those to come stand as they did
pub record Spreading (n m k : ℕ) (l : Lasts) (w w' : List ℕ) : Type 0 where
  pub upto : k ≤ m
  pub kept : length w' ≡ length w
  pub voices : voices_at n w' l.lens ≡ spread (up_to (chord_at n w) k)
  pub coming : (i : ℕ) → k ≤ i → i < n → chord_at n w' i ≡ chord_at n w i
  pub cells : Cells n k l.lens w'
  pub known : Known l (voices_at n w' l.lens)

-- nothing is known, or there, at first
abbrev four_zeros : List ℕ
four_zeros = replicate 4 0

pub spreading_none : (n m : ℕ) (w : List ℕ) → 16 * n ≤ length w → Spreading n m 0 (record { starts = four_zeros; ends = four_zeros; lens = four_zeros }) w w
unfolding count down
spreading_none n m w area =
    record {
      upto = zero-le;
      kept = refl;
      voices = refl;
      coming = λ i _ _. refl;
      cells =
          record {
            area = area;
            four = refl;
            few = λ v h. omega (arith, get_or-replicate {A = ℕ} 4 v 0 0 h);
            below = λ v j h o. absurd (omega (arith, get_or-replicate {A = ℕ} 4 v 0 0 h));
            once = λ u i v j h o. absurd (omega (arith, get_or-replicate {A = ℕ} 4 u 0 0 h));
          };
      known = record { four = refl; starts = refl; ends = refl };
    }

pub spreading_one : {n m k : ℕ} {l r : Lasts} {w w' w₂ : List ℕ} → m ≤ n → k < m → Spreading n m k l w w' → Placed n k l r w' w₂
    → Spreading n m (k + 1) r w w₂
spreading_one {n} {m} {k} {l} {r} {w} {w'} {w₂} room h s p =
    record {
      upto = omega arith;
      kept = p.kept ∙ s.kept;
      voices = p.voices ∙ rw (s.voices, s.coming k (omega arith) (omega arith), up_to_more, foldl_more);
      coming = λ i o b. p.coming i (omega arith) b ∙ s.coming i (omega arith) b;
      cells = p.cells;
      known = p.known;
    }

pub spreading_end : {n m k : ℕ} {l : Lasts} {w w' : List ℕ} → m ≤ k → Spreading n m k l w w' → Spread n m (record { lens = l.lens }) w w'
spreading_end {n} {m} {k} {l} {w} {w'} h s =
    let upto = s.upto in
    let e : k ≡ m = omega arith in
    record {
      kept = s.kept;
      voices = s.voices ∙ ap (λ (j : ℕ). spread (up_to (chord_at n w) j)) e;
      cells = subst (λ (j : ℕ). Cells n j l.lens w') e s.cells;
    }

-- ---- all chords are placed

All-up_to : {A : Type 0} (P : A → Type 0) (f : ℕ → A) (m : ℕ) → ((i : ℕ) → i < m → P (f i)) → All P (up_to f m)
All-up_to P f m h = All-map P f (λ i k. k) (count 0 m) (All-count (λ i. P (f i)) 0 m (λ i _ l. h i (omega arith)))

module _ {n m : ℕ} {lens w : List ℕ} (room : m ≤ n) (cells : Cells n m lens w) (v : ℕ) (v4 : v < 4) where
  numbers_are : take (get_or lens v 0) (part ((10 + v) * n) n w) ≡ up_to (number_at n w v) (get_or lens v 0)
  numbers_are =
      let few = cells.few v v4 in
      let area = cells.area in
      let long : length (part ((10 + v) * n) n w) ≡ n = part_length ((10 + v) * n) n w (omega (arith, column_end n v v4)) in
      sym (up_to_is (number_at n w v) (get_or lens v 0) 0 (take (get_or lens v 0) (part ((10 + v) * n) n w)) (length-take-le (get_or lens v 0) _ (omega arith))
      (λ j h. sym (get_or-take (get_or lens v 0) (part ((10 + v) * n) n w) j 0 h ∙ part_get ((10 + v) * n) n w j 0 (omega arith))))

  chords_are : map (chord_at n w) (take (get_or lens v 0) (part ((10 + v) * n) n w)) ≡ reverse (voice_at n w lens v)
  chords_are =
      rw (numbers_are, map-map) (sym (reverse_down (λ j. chord_at n w (number_at n w v j)) (get_or lens v 0)))

-- the sorted notes come in order
pub sorted_rise : {n m g : ℕ} {w w' : List ℕ} → SortedTo n m g w w' → Rises note_start (up_to (falling_at n w') m)
sorted_rise {n} {m} {g} {w} s = subst (Rises note_start) (sym s.notes) (sorted_rises g (up_to (note_at n w) m))

module _ {ns : List RawNote} {n count m g : ℕ} {w w₁ w₂ w₃ : List ℕ} {r : Voices} (given : NotesIn ns n count w) (small : All (InRange (2 ^ 47)) ns)
    (grid : g ≤ largest_size) (s : SortedTo n count g w w₁) (c : ChordsIn (reverse (gathered (up_to (falling_at n w₁) count))) n m w₂)
    (p : Spread n m r w₂ w₃) where
  chords_is : up_to (chord_at n w₂) m ≡ chords g ns
  chords_is = c.chords ∙ ap (λ (xs : List RawNote). reverse (gathered xs)) s.notes ∙ ap (chords g) (notes_read given small)

  voices_is : voices_at n w₃ r.lens ≡ spread (chords g ns)
  voices_is = p.voices ∙ ap spread chords_is

  voice_is : (v : ℕ) → v < 4 → reverse (voice_at n w₃ r.lens v) ≡ get_or (voices g ns) v []
  unfolding voices
  voice_is v h =
      sym (ap (λ (xs : List Voice). get_or (map reverse xs) v []) (sym voices_is)
      ∙ get_d_map reverse (voices_at n w₃ r.lens) v [] [] (omega (arith, up_to_length (voice_at n w₃ r.lens) 4))
      ∙ ap reverse (up_to_get (voice_at n w₃ r.lens) 4 v [] h))

  pub voices_in : VoicesIn (voices g ns) n r w₃
  voices_in =
      let room = c.room in
      record {
        lens = λ v h.
            sym (ap length (sym (voice_is v h) ∙ reverse_down (λ j. chord_at n w₃ (number_at n w₃ v j)) (get_or r.lens v 0))
            ∙ up_to_length _ (get_or r.lens v 0));
        chords = λ v h. chords_are room p.cells v h ∙ voice_is v h;
        room = λ v h. omega (arith, p.cells.few v h);
        numbers = λ v h. rw (numbers_are room p.cells v h) (All-up_to (λ i. i < n) (number_at n w₃ v) _ (λ j o. omega (arith, p.cells.below v j h o)));
        small = λ v h. All-get (All (Small (2 ^ 48))) (voices g ns) v [] (voices_small g ns grid small) (omega (arith, voices_four g ns));
      }
