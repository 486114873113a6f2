-- What was read opened: a refusal with no piece, or the piece that the arrays hold.
use Prim.Native.Nat.{ℕ, ◌<◌}
use mathlib.Core.List.{List, [], ◌∷◌, ◌++◌}
use mathlib.Core.Option.{Option, none, some}
use mathlib.Core.Path.{◌≡◌, refl, sym, ap, ◌∙◌}
use native.Mathlib.Nat.{pos_of_ne-zero}
use native.Mathlib.Omega.{arith}
use borrow.Author.Tests.{ne_eqb}
use Rattle.std.specs.Prelude.{Some, None}
use Rattle.basics.specs.declared.Refusal.TheVariants.{SizesDisagree}
use Rattle.basics.specs.Refusals.{number}
use Rattle.admission.proofs.Refused.{positive}
use lib.ListN.{take}
use Rattle.rules.specs.Piece.{Piece, piece}
use Rattle.rules.specs.Refusals.{Refusal, first_number, piece_refusals, note_refusals}
use Rattle.laws.proofs.Refusals.{number_first}
use Rattle.piece_text.specs.Held.{Answers, Fit}
use Rattle.piece_text.specs.declared.Counts.{Counts}
use Rattle.bar_lines.specs.Lines.{refused_line}
use Rattle.pages.specs.Page.{Line, read_page, page_of, Room, room_for}
use Rattle.pages.specs.Spots.{sheet}
use Rattle.page_openings.specs.Places.{held_piece, no_piece, Opens, Within, FrontOpened, LinesOpen}
use Rattle.page_openings.specs.declared.Opened.{Opened}
use Rattle.page_openings.proofs.PieceOpened.{refused_lines, refused_ready}

-- the page of the first refusal that applies is its line
pub number_page : (x : Piece) (rs : List Refusal) (n : ℕ) → first_number rs ≡ n → 0 < n → page_of rs x ≡ refused_line n ∷ []
number_page x rs n e l = sym (refused_lines x (sheet [] [] [] [] []) rs n e l) ∙ rw (ne_eqb n 0 (λ z. omega (arith, z)))

pub no_piece_within : (ss ds ws : List ℕ) (n : ℕ) → Within ss ds ws (no_piece n)
no_piece_within ss ds ws n = record { sizes = omega arith; deltas = omega arith; words = omega arith }

-- a front that fits is within the arrays
pub front_within : (c : Counts) (r : Room) (ss ds ws st mk : List ℕ) (o : Opened) → Fit c ss ds ws → FrontOpened c r ss ds ws st mk o → Within ss ds ws o
front_within c r ss ds ws st mk o f h =
    record { sizes = rw h.sizes f.sizes; deltas = rw h.deltas f.deltas; words = rw h.words f.words }

module _ (r : Room) (ss ds ws st mk : List ℕ) where
  pub no_piece_opens : (page : List Line) (n : ℕ) → 0 < n → page ≡ refused_line n ∷ [] → Opens page r ss ds ws st mk (no_piece n)
  no_piece_opens page n l e =
      record {
        ahead_of = λ s. rw (ne_eqb n 0 (λ z. omega (arith, z))) (sym e);
        ready = λ s _ _. refused_ready _ r s n;
      }

  -- ---- texts

  -- a piece that the arrays do not hold whole has a number of its own
  pub due_opens : (x : Piece) (n : ℕ) → (n ≡ 0 → ⊥) → n ≡ first_number (piece_refusals x)
      → Opens (page_of (note_refusals x ++ room_for r x) x) r ss ds ws st mk (no_piece n)
  due_opens x n z e =
      let l = pos_of_ne-zero z in
      no_piece_opens _ n l
      (number_page x (note_refusals x ++ room_for r x) n (number_first (note_refusals x) (room_for r x) n (number_first (piece_refusals x) _ n (sym e) l) l) l)

  pub whole_opens : (x : Piece) (c : Counts) (o : Opened) → x ≡ piece (take c.sizes ss) (take c.deltas ds) (take c.words ws)
      → FrontOpened c r ss ds ws st mk o → Opens (page_of (note_refusals x ++ room_for r x) x) r ss ds ws st mk o
  whole_opens x c o e h =
      let same : held_piece o ss ds ws ≡ x =
      (λ i. piece (take (h.sizes i) ss) (take (h.deltas i) ds) (take (h.words i) ws)) ∙ sym e
      in
      record {
        ahead_of = λ s. h.opened.page s ∙ ap (λ (y : Piece). page_of (note_refusals y ++ room_for r y) y) same;
        ready = h.opened.ready;
      }

  pub bad_opens : (o : Option Piece) → Answers o None ss ds ws → Opens (read_page (room_for r) o) r ss ds ws st mk (no_piece (number SizesDisagree))
  unfolding Answers
  bad_opens none h = no_piece_opens _ (number SizesDisagree) (positive SizesDisagree) refl
  bad_opens (some x) h = absurd h

  pub lines_open : (o : Option Piece) (c : Counts) (t : Opened) → LinesOpen c r ss ds ws st mk t → Answers o (Some c) ss ds ws
      → Opens (read_page (room_for r) o) r ss ds ws st mk t
  unfolding Answers
  lines_open none c t h a = absurd a
  lines_open (some x) c t h a = h x a
