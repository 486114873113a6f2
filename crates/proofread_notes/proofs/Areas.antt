-- The notes of a work area that keeps its first two columns are the same.
use Prim.Native.Nat.{ℕ, ◌+◌, ◌^◌, ◌≤◌, ◌<◌}
use mathlib.Core.List.{List}
use mathlib.Core.Path.{◌≡◌, refl, sym, ap, subst, ◌∙◌}
use mathlib.Core.Logic.{inl, inr}
use native.Mathlib.Omega.{arith}
use Rattle.rules.specs.RawNotes.{RawNote}
use Rattle.rules.specs.Grid.{snapped}
use Rattle.laws.specs.NoteWords.{InRange}
use Rattle.laws.proofs.Order.{by_eq}
use Rattle.proofread_notes.specs.Columns.{raw_at, snap_at, notes_at, Readable, Same, Before}
use Rattle.proofread_notes.proofs.Rests.{rest_same}

pub same_self : (n : ℕ) (w : List ℕ) → Same n w w
same_self n w = record { kept = refl; notes = λ j h. refl }

pub same_then : {n : ℕ} {w w₁ w₂ : List ℕ} → Same n w w₁ → Same n w₁ w₂ → Same n w w₂
same_then s t = record { kept = t.kept ∙ s.kept; notes = λ j h. t.notes j h ∙ s.notes j h }

module _ {n : ℕ} {w w' : List ℕ} (same : Same n w w') where
  pub raw_same : (j : ℕ) → j < n → raw_at n w' j ≡ raw_at n w j
  raw_same j h = rw (same.notes (n + j) (omega arith), same.notes j (omega arith))

  pub snap_same : (g j : ℕ) → j < n → snap_at g n w' j ≡ snap_at g n w j
  snap_same g j h = ap (snapped g) (raw_same j h)

  pub start_same : (g j : ℕ) → j < n → (snap_at g n w' j).start ≡ (snap_at g n w j).start
  start_same g j h = ap (λ (x : RawNote). x.start) (snap_same g j h)

  pub notes_same : (g m : ℕ) → m ≤ n → notes_at g n m w' ≡ notes_at g n m w
  notes_same g m l = rest_same (snap_at g n w') (snap_at g n w) m 0 (λ j a b. snap_same g j (omega arith))

  pub readable_same : {g m : ℕ} → Readable g n m w → Readable g n m w'
  readable_same {g} {m} r =
      let room = r.room in
      record {
        area = omega (arith, r.area, same.kept);
        room = room;
        some_grid = r.some_grid;
        small_grid = r.small_grid;
        range = λ i h. subst (InRange (2 ^ 47)) (sym (raw_same i (omega arith))) (r.range i h);
        rises = λ i j l h. omega (arith, start_same g i (omega arith), start_same g j (omega arith), r.rises i j l h);
      }

  pub before_same : {g k s : ℕ} → k ≤ n → Before g n w k s → Before g n w' k s
  before_same {g} l b = record { earlier = λ j h. omega (arith, start_same g j (omega arith), b.earlier j h) }

pub before_later : {g n : ℕ} {w : List ℕ} {k s t : ℕ} → s ≤ t → Before g n w k s → Before g n w k t
before_later l b = record { earlier = λ j h. omega (arith, b.earlier j h) }

pub before_more : {g n : ℕ} {w : List ℕ} {k s : ℕ} → Before g n w k s → (snap_at g n w k).start < s → Before g n w (k + 1) s
before_more {g} {n} {w} {k} {s} b h =
    record { earlier = λ j l. elim (by_eq j k) [ inl e ↦ subst (λ (x : ℕ). (snap_at g n w x).start < s) (sym e) h | inr e ↦ b.earlier j (omega arith) ] }
