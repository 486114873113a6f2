-- Notes that stand in a work area are those that are read there.
use Prim.Native.Nat.{ℕ, ◌+◌, ◌*◌, ◌/◌, ◌%◌, ◌^◌, ◌≤◌, ◌<◌}
use mathlib.Core.List.{List}
use mathlib.Core.Path.{◌≡◌, sym, ap, subst, ◌∙◌}
use native.Mathlib.Omega.{arith}
use lib.ListN.{length, get_or}
use lib.Seq.{get_or-take}
use Rattle.rules.specs.Lists.{All}
use Rattle.rules.specs.Piece.{largest_size}
use Rattle.rules.specs.RawNotes.{RawNote}
use Rattle.laws.specs.NoteWords.{start_word, end_word, NotesIn, InRange}
use Rattle.laws.proofs.Lists.{All-get}
use Rattle.laws.proofs.Parts.{part_get}
use Rattle.laws.specs.Places.{up_to}
use Rattle.chords.specs.Columns.{note_at, Ready}
use Rattle.laws.proofs.Places.{get_d_map, up_to_is}

no_note : RawNote
no_note = record { start = 0; end = 0; key = 0; channel = 0 }

module _ {ns : List RawNote} {n m : ℕ} {w : List ℕ} (given : NotesIn ns n m w) (small : All (InRange (2 ^ 47)) ns) where
  in_range : (i : ℕ) → i < m → InRange (2 ^ 47) (get_or ns i no_note)
  in_range i h = let all = given.all in All-get (InRange (2 ^ 47)) ns i no_note small (omega arith)

  note_read : (i : ℕ) → i < m → note_at n w i ≡ get_or ns i no_note
  note_read i h =
      let all = given.all in
      let room = given.room in
      let r = in_range i h in
      let x : RawNote = get_or ns i no_note in
      let p : get_or w (n + i) 0 ≡ start_word x =
      sym (part_get n n w i 0 (omega arith))
      ∙ sym (get_or-take m _ i 0 h)
      ∙ ap (λ (l : List ℕ). get_or l i 0) given.starts
      ∙ get_d_map start_word ns i 0 no_note (omega arith) in
      let q : get_or w i 0 ≡ end_word x =
      sym (get_or-take n w i 0 (omega arith))
      ∙ sym (get_or-take m _ i 0 h)
      ∙ ap (λ (l : List ℕ). get_or l i 0) given.ends
      ∙ get_d_map end_word ns i 0 no_note (omega arith) in
      let s : get_or w (n + i) 0 / 128 ≡ x.start = omega arith in
      let e : get_or w i 0 / 16 ≡ x.end = omega arith in
      let k : get_or w (n + i) 0 % 128 ≡ x.key = omega arith in
      let c : get_or w i 0 % 16 ≡ x.channel = omega arith in
      λ t. record { start = s t; end = e t; key = k t; channel = c t }

  pub notes_read : up_to (note_at n w) m ≡ ns
  notes_read = up_to_is (note_at n w) m no_note ns (sym given.all) note_read

  pub notes_ready : {g : ℕ} → 16 * n ≤ length w → 0 < g → g ≤ largest_size → Ready n m g w
  notes_ready area p q =
      let all = given.all in
      let room = given.room in
      record { area = area; room = omega arith; some_grid = p; small_grid = q; notes = λ i h. subst (InRange (2 ^ 47)) (sym (note_read i h)) (in_range i h) }
