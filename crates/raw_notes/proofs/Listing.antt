-- Notes in columns 2 and 3: one more is put behind them, and what changes elsewhere leaves them.
use Prim.Native.Nat.{ℕ, ◌+◌, ◌*◌, ◌≤◌, ◌<◌}
use mathlib.Core.List.{List, [], ◌∷◌, ◌++◌, map, map-append}
use mathlib.Core.Path.{◌≡◌, sym, ap, ◌∙◌}
use native.Mathlib.Numerals.{add-one}
use native.Mathlib.Omega.{arith}
use lib.ListN.{length, set, take, drop, length-append, take-append-drop}
use lib.Seq.{take-suc-set, drop-set-lt, length-take-le}
use Rattle.rules.specs.RawNotes.{RawNote}
use Rattle.laws.specs.NoteWords.{start_word, end_word}
use Rattle.laws.specs.Parts.{part}
use Rattle.laws.proofs.Parts.{part_length, part_set, part_set_before, part_set_after, part_left}
use Rattle.pairing.specs.Steps.{FrontKept}
use Rattle.raw_notes.specs.Columns.{Listed}
use Rattle.raw_notes.specs.Stages.{NotePut}

-- one word more in a column
column_more : (f : RawNote → ℕ) (l : List ℕ) (r : ℕ) (ns : List RawNote) (m : RawNote) → r < length l → take r l ≡ map f ns
    → take (r + 1) (set l r (f m)) ≡ map f (ns ++ (m ∷ []))
column_more f l r ns m h e = rw (add-one, take-suc-set l r (f m) h, e) (sym (map-append f ns (m ∷ [])))

pub note_put : (w : List ℕ) (n r : ℕ) (m : RawNote) → r < n → 16 * n ≤ length w
    → NotePut w (set (set w (2 * n + r) (start_word m)) (3 * n + r) (end_word m)) n r m
note_put w n r m h a =
    record {
      more = λ ns p.
          record {
            count = rw (length-append, p.count);
            room = omega arith;
            ends =
                rw (part_set (3 * n) n w₁ r (end_word m) h, part_set_before (3 * n) n w (2 * n + r) (start_word m) (omega arith))
                (column_more end_word (part (3 * n) n w) r ns m (omega (arith, part_length (3 * n) n w (omega arith))) p.ends);
            starts =
                rw (part_set_after (2 * n) n w₁ (3 * n + r) (end_word m) (omega arith), part_set (2 * n) n w r (start_word m) h)
                (column_more start_word (part (2 * n) n w) r ns m (omega (arith, part_length (2 * n) n w (omega arith))) p.starts);
          };
      rest = drop-set-lt (4 * n) w₁ (3 * n + r) (end_word m) (omega arith) ∙ drop-set-lt (4 * n) w (2 * n + r) (start_word m) (omega arith);
    }
  where
    w₁ : List ℕ
    w₁ = set w (2 * n + r) (start_word m)

-- a part of the front is kept where the front is
part_front : (a n b : ℕ) (w w' : List ℕ) → a + n ≤ b → b ≤ length w → length w' ≡ length w → take b w' ≡ take b w → part a n w' ≡ part a n w
part_front a n b w w' h l k e = front w' (omega arith) ∙ ap (part a n) e ∙ sym (front w l)
  where
    front : (v : List ℕ) → b ≤ length v → part a n v ≡ part a n (take b v)
    front v i = ap (part a n) (sym (take-append-drop b v)) ∙ part_left (take b v) (drop b v) a n (omega (arith, length-take-le b v i))

pub listed_kept : {w w' : List ℕ} {n r : ℕ} {ns : List RawNote} → 16 * n ≤ length w → length w' ≡ length w → FrontKept n w w' → Listed n r w ns
    → Listed n r w' ns
listed_kept {w} {w'} {n} {r} a k e p =
    record {
      count = p.count;
      room = p.room;
      ends = ap (take r) (part_front (3 * n) n (4 * n) w w' (omega arith) (omega arith) k e) ∙ p.ends;
      starts = ap (take r) (part_front (2 * n) n (4 * n) w w' (omega arith) (omega arith) k e) ∙ p.starts;
    }
