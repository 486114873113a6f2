-- The raw notes that were collected in the work area are those of the track, and the proof-reader can read them on their grid.
use Prim.Native.Nat.{ℕ, ◌+◌, ◌*◌, ◌/◌, ◌%◌, ◌^◌, ◌≤◌, ◌<◌}
use mathlib.Core.List.{List}
use mathlib.Core.Logic.{inl, inr}
use mathlib.Core.Path.{◌≡◌, sym, ap, subst, ◌∙◌}
use native.Mathlib.Nat.{mul-le-mul_right, le-div_iff_mul-le, div-mul-le_self}
use native.Mathlib.Omega.{arith}
use lib.ListN.{length, get_or}
use lib.Seq.{get_or-take}
use Rattle.rules.specs.Lists.{All}
use Rattle.rules.specs.Piece.{Event}
use Rattle.rules.specs.RawNotes.{RawNote, raw_notes, raw_notes_of, by_start}
use Rattle.rules.specs.Grid.{snap, grid}
use Rattle.laws.specs.NoteWords.{InRange, start_word, end_word}
use Rattle.laws.specs.Sort.{Rises}
use Rattle.laws.proofs.Grid.{grid_some, grid_small}
use Rattle.laws.proofs.Lists.{All-get}
use Rattle.laws.proofs.Order.{by_eq}
use Rattle.laws.proofs.Parts.{part_get}
use Rattle.laws.proofs.Places.{get_d_map, up_to_is}
use Rattle.laws.proofs.Sort.{rises_sort, rises_get}
use Rattle.raw_notes.specs.Columns.{Noted}
use Rattle.proofread_notes.specs.Columns.{raw_at, Readable}
use Rattle.proofread_staff.specs.Staffs.{raws_at}

-- ---- the notes

snap_mono : (g s t : ℕ) → 0 < g → s ≤ t → snap g s ≤ snap g t
snap_mono g s t h l =
    mul-le-mul_right g ((le-div_iff_mul-le h).1 (omega (arith, div-mul-le_self (s + g / 2) g)))

no_note : RawNote
no_note = record { start = 0; end = 0; key = 0; channel = 0 }

starts_rise : (es : List Event) → Rises by_start (raw_notes es)
unfolding raw_notes_of
starts_rise es = rises_sort by_start _

module _ {es : List Event} {n m : ℕ} {w : List ℕ} (noted : Noted es n m w) (small : All (InRange (2 ^ 47)) (raw_notes es)) where
  in_range : (i : ℕ) → i < m → InRange (2 ^ 47) (get_or (raw_notes es) i no_note)
  in_range i h = All-get (InRange (2 ^ 47)) (raw_notes es) i no_note small (omega (arith, noted.count))

  raw_is : (i : ℕ) → i < m → raw_at n w i ≡ get_or (raw_notes es) i no_note
  raw_is i h =
      let all = noted.count in
      let room = noted.room in
      let x : RawNote = get_or (raw_notes es) i no_note in
      let r = in_range i h in
      let s : get_or w (n + i) 0 ≡ start_word x =
      sym (part_get n n w i 0 (omega arith)) ∙ sym (get_or-take m _ i 0 h) ∙ ap (λ (l : List ℕ). get_or l i 0) noted.starts
      ∙ get_d_map start_word (raw_notes es) i 0 no_note (omega arith) in
      let e : get_or w i 0 ≡ end_word x =
      sym (get_or-take n w i 0 (omega arith)) ∙ sym (get_or-take m _ i 0 h) ∙ ap (λ (l : List ℕ). get_or l i 0) noted.ends
      ∙ get_d_map end_word (raw_notes es) i 0 no_note (omega arith) in
      let q₁ : get_or w (n + i) 0 / 128 ≡ x.start = omega arith in
      let q₂ : get_or w i 0 / 16 ≡ x.end = omega arith in
      let q₃ : get_or w (n + i) 0 % 128 ≡ x.key = omega arith in
      let q₄ : get_or w i 0 % 16 ≡ x.channel = omega arith in
      λ t. record { start = q₁ t; end = q₂ t; key = q₃ t; channel = q₄ t }

  pub raws_are : raws_at n m w ≡ raw_notes es
  raws_are = up_to_is (raw_at n w) m no_note (raw_notes es) (sym noted.count) raw_is

  starts_up : (i j : ℕ) → i ≤ j → j < m → (raw_at n w i).start ≤ (raw_at n w j).start
  starts_up i j l h =
      elim (by_eq i j) [
        | inl e ↦ subst (λ (k : ℕ). (raw_at n w i).start ≤ (raw_at n w k).start) e (omega arith)
        | inr e ↦
            let up = rises_get by_start (raw_notes es) i j no_note (starts_rise es) (omega arith) (omega (arith, noted.count)) in
            let a = ap (λ (x : RawNote). x.start) (raw_is i (omega arith)) in
            let b = ap (λ (x : RawNote). x.start) (raw_is j h) in
            let ki = (in_range i (omega arith)).key in
            let kj = (in_range j h).key in
            omega arith
      ]

  pub notes_readable : (p : ℕ) {g : ℕ} → p ≤ 65535 → 16 * n ≤ length w → g ≡ grid p (raws_at n m w) → Readable g n m w
  notes_readable p {g} h area e =
      let all : List RawNote = raws_at n m w in
      let some : 0 < g = omega (arith, grid_some p all) in
      record {
        area = area;
        room = noted.room;
        some_grid = some;
        small_grid = omega (arith, grid_small p all h);
        range = λ i l. subst (InRange (2 ^ 47)) (sym (raw_is i l)) (in_range i l);
        rises = λ i j l k. snap_mono g (raw_at n w i).start (raw_at n w j).start some (starts_up i j l k);
      }
