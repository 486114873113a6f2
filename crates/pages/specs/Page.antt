-- The page: all lines that a printing program prints, from a text's bytes and from a file's.
--
-- Each part in order gives a line with its number and the bar count, then each bar with its items, voice by voice. A refusal is its line alone.
use Rattle.std.specs.Prelude.{ℕ, zero, suc, ◌+◌, List, [], ◌∷◌, ◌++◌, map, ltb, length}
use Rattle.std.proofs.Math.Option.{Option, none, some}
use Rattle.rules.specs.Piece.{Piece, Event, ticks_per_quarter}
use Rattle.rules.specs.RawNotes.{parts}
use Rattle.rules.specs.Bars.{bars, starts, marks}
use Rattle.rules.specs.Items.{Item, Staff, head_of, low_keys, high_keys, items_of}
use Rattle.rules.specs.Staff.{part_staff}
use Rattle.rules.specs.Refusals.{Result, refused, given, Refusal, refuse, unless, note_refusals, short_work}
use Rattle.rules.specs.Calls.{part_track}
use Rattle.rules.specs.File.{file_piece, file_refusals, most_bytes}
use Rattle.piece_text.specs.Text.{text_piece}
use Rattle.item_lines.specs.Items.{item_line}
use Rattle.bar_lines.specs.Lines.{bar_line, part_line, refused_line}

-- a line's bytes, its end included
abbrev pub Line : Type 0
Line = List ℕ

-- ---- a part

-- the items of a voice in a bar
abbrev pub voice_lines : ℕ → List Item → List Line
voice_lines voice is = map (λ (i : Item). item_line voice (head_of i) (low_keys i) (high_keys i)) is

-- the voices of a bar, from the one with this number on
unfoldable pub voices_lines : ℕ → List (List Item) → List Line
voices_lines voice [] = []
voices_lines voice (is ∷ vs) = voice_lines voice is ++ voices_lines (voice + 1) vs

-- bars, from the one with this number on: their starts, their marks, their voices
unfoldable pub bars_lines : ℕ → ℕ → List ℕ → List ℕ → Staff → List Line
bars_lines p number (s ∷ ss) (m ∷ ms) (vs ∷ st) = bar_line p number s m ∷ (voices_lines 0 vs ++ bars_lines p (number + 1) ss ms st)
bars_lines p number (s ∷ ss) (m ∷ ms) [] = []
bars_lines p number (s ∷ ss) [] st = []
bars_lines p number [] ms st = []

-- part k: its line, and its bars
abbrev pub part_lines : Piece → ℕ → List Line
part_lines x k =
    part_line k (length (bars x)) ∷ bars_lines (ticks_per_quarter x) 1 (starts x) (marks x) (part_staff x (part_track x k))

-- n parts from part k on
unfoldable pub parts_lines : Piece → ℕ → ℕ → List Line
parts_lines x k zero = []
parts_lines x k (suc n) = part_lines x k ++ parts_lines x (k + 1) n

-- ---- a piece, a text, a file

-- the line of a refusal alone, or the lines
abbrev pub printed : Result (List Line) → List Line
printed (refused n) = refused_line n ∷ []
printed (given ls) = ls

-- a piece, unless one of these refusals applies: all its parts
unfoldable pub page_of : List Refusal → Piece → List Line
page_of rs x = printed (unless rs (parts_lines x 0 (length (parts x))))

-- that of a piece that was read, 1 to 6 and then what a program has no room for; no piece is number 1
abbrev pub read_page : (Piece → List Refusal) → Option Piece → List Line
read_page room none = refused_line 1 ∷ []
read_page room (some x) = page_of (note_refusals x ++ room x) x

-- A text's page: that of its piece.
abbrev pub text_page : (Piece → List Refusal) → List ℕ → List Line
text_page room bs = read_page room (text_piece bs)

-- A file's page: that of its piece, what a program cannot hold first, then the file's own numbers, then as a text's.
abbrev pub file_page : (List ℕ → List Refusal) → (Piece → List Refusal) → List ℕ → List Line
file_page held room bs =
    page_of (held bs ++ (file_refusals bs ++ (note_refusals (file_piece bs) ++ room (file_piece bs)))) (file_piece bs)

-- ---- room

-- a program that has room for everything
abbrev pub any_piece : Piece → List Refusal
any_piece x = []

abbrev pub any_file : List ℕ → List Refusal
any_file bs = []

-- What a program has room for: the items of one part, the words of a work area.
pub record Room : Type 0 where
  pub items : ℕ
  pub work : ℕ

-- 8: a part has too many items
abbrev pub many_items : ℕ → Piece → List Event → Refusal
many_items room x es = refuse 8 (ltb room (length (items_of (part_staff x es))))

-- 8: the work area is too short, or some part has too many items
abbrev pub room_for : Room → Piece → List Refusal
room_for r x = short_work x r.work ∷ map (many_items r.items x) (parts x)

-- a program that holds files of so many bytes: 11, and then 8
abbrev pub bytes_for : ℕ → List ℕ → List Refusal
bytes_for n bs = refuse 11 (ltb most_bytes (length bs)) ∷ refuse 8 (ltb n (length bs)) ∷ []
