-- Room decides number 8 alone: refusals that change a result to number 8 at most do so behind any others.
use Prim.Native.Nat.{ℕ, ◌≤◌}
use mathlib.Core.Bool.{true}
use mathlib.Core.List.{List, [], ◌∷◌, ◌++◌}
use mathlib.Core.Logic.{◌⊎◌, inl, inr, ⊎_elim}
use mathlib.Core.Option.{Option, none, some}
use mathlib.Core.Path.{◌≡◌, refl, ap, ◌∙◌}
use borrow.Author.Tests.{le-ltb}
use lib.Dec.{ltb}
use lib.ListN.{length}
use Rattle.rules.specs.Lists.{All}
use Rattle.rules.specs.Piece.{Piece, Event}
use Rattle.rules.specs.RawNotes.{parts}
use Rattle.rules.specs.Refusals.{Result, refused, given, Refusal, unless, note_refusals}
use Rattle.rules.specs.File.{file_piece, file_refusals, most_bytes}
use Rattle.laws.specs.Admitted.{Passes}
use Rattle.laws.proofs.Lists.{All-all, All-map}
use Rattle.laws.proofs.Order.{by_bool}
use Rattle.laws.proofs.Refusals.{passes_given, passes_append}
use Rattle.piece_text.specs.Text.{text_piece}
use Rattle.bar_lines.specs.Lines.{refused_line}
use Rattle.pages.specs.Page.{Line, printed, page_of, read_page, text_page, file_page, Room, many_items, room_for, bytes_for, any_piece, any_file}
use Rattle.pages.specs.Claims.{RoomDecides}

-- ---- refusals

-- the same result, or number 8
abbrev SameOrEight : {A : Type 0} → Result A → Result A → Type 0
SameOrEight u v = (u ≡ v) ⊎ (u ≡ refused 8)

module _ {A : Type 0} (a : A) where
  -- refusals of number 8 alone
  eights : (ss : List Refusal) → All (λ (s : Refusal). s.number ≡ 8) ss → SameOrEight (unless ss a) (given a)
  unfolding unless
  eights [] h = inl refl
  eights (s ∷ ss) h = elim (by_bool s.applies) [ inl t ↦ rw t (inr (ap refused h.0)) | inr t ↦ rw t (eights ss h.1) ]

  -- behind the same refusals
  behind_same : (rs ss ts : List Refusal) → unless ss a ≡ unless ts a → unless (rs ++ ss) a ≡ unless (rs ++ ts) a
  unfolding unless
  behind_same [] ss ts e = e
  behind_same (r ∷ rs) ss ts e = rw (behind_same rs ss ts e)

  behind_eight : (rs ss ts : List Refusal) → SameOrEight (unless ss a) (unless ts a) → SameOrEight (unless (rs ++ ss) a) (unless (rs ++ ts) a)
  unfolding unless
  behind_eight [] ss ts e = e
  behind_eight (r ∷ rs) ss ts e = elim (by_bool r.applies) [ inl t ↦ rw t (inl refl) | inr t ↦ rw t (behind_eight rs ss ts e) ]

-- ---- a piece

room_eights : (r : Room) (x : Piece) → All (λ (s : Refusal). s.number ≡ 8) (room_for r x)
room_eights r x = (refl, All-map {P = λ (es : List Event). Unit {0}} _ (many_items r.items x) (λ es h. refl) (parts x) (All-all (λ es. tt) (parts x)))

module _ {A : Type 0} (a : A) (r : Room) (x : Piece) where
  piece_same : Passes (room_for r x) → unless (note_refusals x ++ room_for r x) a ≡ unless (note_refusals x ++ any_piece x) a
  unfolding unless
  piece_same h = behind_same a (note_refusals x) (room_for r x) [] (passes_given (room_for r x) a h)

  piece_eight : SameOrEight (unless (note_refusals x ++ room_for r x) a) (unless (note_refusals x ++ any_piece x) a)
  unfolding unless
  piece_eight = behind_eight a (note_refusals x) (room_for r x) [] (eights a (room_for r x) (room_eights r x))

-- ---- pages

-- the same page, or `refused 8`
abbrev PageOrEight : List Line → List Line → Type 0
PageOrEight p q = (p ≡ q) ⊎ (p ≡ refused_line 8 ∷ [])

printed_eight : {u v : Result (List Line)} → SameOrEight u v → PageOrEight (printed u) (printed v)
printed_eight e = ⊎_elim (λ h. inl (ap printed h)) (λ h. inr (ap printed h)) e

module _ (r : Room) where
  read_eight : (o : Option Piece) → PageOrEight (read_page (room_for r) o) (read_page any_piece o)
  unfolding page_of
  read_eight none = inl refl
  read_eight (some x) = printed_eight (piece_eight _ r x)

  text_same : (bs : List ℕ) (x : Piece) → text_piece bs ≡ some x → Passes (room_for r x) → text_page (room_for r) bs ≡ text_page any_piece bs
  unfolding page_of
  text_same bs x e h = rw e (ap printed (piece_same _ r x h))

module _ (n : ℕ) (r : Room) (bs : List ℕ) where
  -- above the largest file both are number 11
  too_large : ltb most_bytes (length bs) ≡ true → file_page (bytes_for n) (room_for r) bs ≡ file_page any_file any_piece bs
  unfolding page_of unless file_refusals
  too_large t = rw t

  file_same : length bs ≤ n → Passes (room_for r (file_piece bs)) → file_page (bytes_for n) (room_for r) bs ≡ file_page any_file any_piece bs
  unfolding page_of
  file_same l h =
      elim (by_bool (ltb most_bytes (length bs))) [
        | inl t ↦ too_large t
        | inr t ↦
            ap printed
            (passes_append (bytes_for n bs) _ _ (t, (le-ltb n (length bs) l, tt))
            ∙ behind_same _ (file_refusals bs) _ _ (piece_same _ r (file_piece bs) h))
      ]

  file_eight : PageOrEight (file_page (bytes_for n) (room_for r) bs) (file_page any_file any_piece bs)
  unfolding page_of unless
  file_eight =
      elim (by_bool (ltb most_bytes (length bs))) [
        | inl t ↦ inl (too_large t)
        | inr t ↦
            elim (by_bool (ltb n (length bs))) [
              | inl u ↦ rw (t, u) (inr refl)
              | inr u ↦ rw (t, u) (printed_eight (behind_eight _ (file_refusals bs) _ _ (piece_eight _ r (file_piece bs))))
            ]
      ]

pub room_decides : RoomDecides
room_decides = (
  λ r bs. record { same = text_same r bs; eight = read_eight r (text_piece bs) },
  λ n r bs. record { same = file_same n r bs; eight = file_eight n r bs },
)
