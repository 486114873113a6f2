-- What is claimed of a page: the lines ahead of a part's front, in the arrays as the calls write them, are the part's; and room decides number 8 alone.
use Rattle.std.specs.Prelude.{ℕ, ◌≤◌, List, [], ◌∷◌, ◌⊎◌, ◌≡◌, length}
use Rattle.std.proofs.Math.Option.{some}
use Rattle.rules.specs.Lists.{written}
use Rattle.rules.specs.Piece.{Piece, ticks_per_quarter}
use Rattle.rules.specs.Bars.{bars, starts, marks}
use Rattle.rules.specs.Calls.{part_arrays}
use Rattle.rules.specs.File.{file_piece}
use Rattle.laws.specs.Admitted.{Passes}
use Rattle.piece_text.specs.Text.{text_piece}
use Rattle.bar_lines.specs.Lines.{refused_line}
use Rattle.pages.specs.Page.{part_lines, text_page, file_page, Room, room_for, bytes_for, any_piece, any_file}
use Rattle.pages.specs.Spots.{Sheet, sheet, begun, ahead, Fits}
use Rattle.pages.specs.declared.Spot.{Spot}

-- the arrays after `engrave` of part k and `bars`, from what they held before
abbrev pub part_sheet : Piece → ℕ → List ℕ → List ℕ → List ℕ → List ℕ → List ℕ → Sheet
part_sheet x k c₀ h₀ k₀ s₀ m₀ =
    sheet
    (written (part_arrays x k).counts c₀)
    (written (part_arrays x k).heads h₀)
    (written (part_arrays x k).keys k₀)
    (written (starts x) s₀)
    (written (marks x) m₀)

-- the front of part k
abbrev pub part_front : Piece → ℕ → Spot
part_front x k = begun k (ticks_per_quarter x) (length (bars x))

-- Ahead of a part's front are its lines, and the arrays hold them.
abbrev pub PartAhead : Type 0
PartAhead =
    (x : Piece) (k : ℕ) (c₀ h₀ k₀ s₀ m₀ : List ℕ)
    → (ahead (part_sheet x k c₀ h₀ k₀ s₀ m₀) (part_front x k) ≡ part_lines x k)
    × (ticks_per_quarter x ≤ 65535 → Fits (part_sheet x k c₀ h₀ k₀ s₀ m₀) (part_front x k))

-- ---- room

-- A text's page: where there is room for the text's piece it is that of a program with room for everything; elsewhere it is `refused 8`, or still the same.
pub record TextRoom (r : Room) (bs : List ℕ) : Type 0 where
  pub same : (x : Piece) → text_piece bs ≡ some x → Passes (room_for r x) → text_page (room_for r) bs ≡ text_page any_piece bs
  pub eight : (text_page (room_for r) bs ≡ text_page any_piece bs) ⊎ (text_page (room_for r) bs ≡ refused_line 8 ∷ [])

-- A file's page, of a program that holds n bytes: the same.
pub record FileRoom (n : ℕ) (r : Room) (bs : List ℕ) : Type 0 where
  pub same : length bs ≤ n → Passes (room_for r (file_piece bs)) → file_page (bytes_for n) (room_for r) bs ≡ file_page any_file any_piece bs
  pub eight : (file_page (bytes_for n) (room_for r) bs ≡ file_page any_file any_piece bs) ⊎ (file_page (bytes_for n) (room_for r) bs ≡ refused_line 8 ∷ [])

-- A program's room decides number 8 alone.
abbrev pub RoomDecides : Type 0
RoomDecides = ((r : Room) (bs : List ℕ) → TextRoom r bs) × ((n : ℕ) (r : Room) (bs : List ℕ) → FileRoom n r bs)
