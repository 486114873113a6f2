-- A place of a page: the lines ahead of it, and what the arrays hold there.
use Rattle.std.specs.Prelude.{ℕ, ◌+◌, ◌-◌, ◌*◌, ◌<◌, ◌≤◌, Bool, true, cond, not, ◌||◌, ◌≡◌, eqb, ltb, length, take, Option, None, Some}
use Rattle.std.specs.Option.{is_some}
use mathlib.Core.List.{List, [], ◌∷◌, ◌++◌, flatten}
use Rattle.rules.specs.Lists.{flag, written}
use Rattle.rules.specs.Piece.{Piece, piece}
use Rattle.rules.specs.RawNotes.{parts}
use Rattle.rules.specs.Bars.{starts, marks}
use Rattle.rules.specs.Refusals.{note_refusals}
use Rattle.rules.specs.File.{most_bytes}
use Rattle.laws.specs.Admitted.{Passes}
use Rattle.piece_text.specs.Text.{text_piece}
use Rattle.piece_text.specs.Held.{PieceHeld, Answers}
use Rattle.piece_text.specs.declared.Counts.{Counts}
use Rattle.bar_lines.specs.Lines.{refused_line}
use Rattle.pages.specs.Page.{Line, parts_lines, page_of, text_page, file_page, Room, room_for, bytes_for}
use Rattle.pages.specs.Spots.{Sheet, Fits, ahead, ahead_on}
use Rattle.pages.specs.declared.Spot.{Spot}
use Rattle.pages.specs.declared.Lines.{Lines}
use Rattle.page_openings.specs.declared.Place.{Place}
use Rattle.page_openings.specs.declared.Turn.{Turn}
use Rattle.page_openings.specs.declared.Opened.{Opened}

-- The lines ahead: a refusal's alone, or those of the part that is open, and then the parts from the next on.
abbrev pub lines_at : Piece → Sheet → Place → List Line
lines_at x s t =
    cond (eqb t.number 0)
    (ahead_on s t.spot ++ parts_lines x t.next (t.parts - t.next))
    (refused_line t.number ∷ [])

-- a line may be ahead
abbrev pub goes_on : Place → Bool
goes_on t = not (eqb t.number 0) || (is_some t.spot || ltb t.next t.parts)

-- no part is open: a refusal, so many parts to open, the end
abbrev pub turned_back : ℕ → Place
turned_back n = record { number = n; parts = 0; next = 0; spot = None }

abbrev pub to_open : ℕ → Place
to_open n = record { number = 0; parts = n; next = 0; spot = None }

-- what a place needs of a piece and the arrays: parts that are left to open have room, and the part that is open is held
pub record Ready (x : Piece) (r : Room) (s : Sheet) (t : Place) : Type 0 where
  pub passes : t.next < t.parts → Passes (note_refusals x ++ room_for r x)
  pub parts : t.next < t.parts → t.parts ≡ length (parts x)
  pub starts : t.next < t.parts → s.starts ≡ written (starts x) s.starts
  pub marks : t.next < t.parts → s.marks ≡ written (marks x) s.marks
  pub fits : (here : Spot) → t.spot ≡ Some here → Fits s here

-- the arrays have room for as many bars as there can be, and for as many keys as heads
pub record Rooms (s : Sheet) : Type 0 where
  pub counts : 40000 ≤ length s.counts
  pub keys : 2 * length s.heads ≤ length s.keys
  pub starts : 10000 ≤ length s.starts
  pub marks : 10000 ≤ length s.marks

-- A piece is opened: its page is ahead, whatever a staff's arrays hold.
pub record PieceOpened (x : Piece) (r : Room) (ss ms : List ℕ) (t : Place) : Type 0 where
  pub page : (s : Sheet) → lines_at x s t ≡ page_of (note_refusals x ++ room_for r x) x
  pub ready : (s : Sheet) → s.starts ≡ ss → s.marks ≡ ms → Ready x r s t

-- a part is opened, or none was left: the same lines are ahead
pub record PartOpened (x : Piece) (r : Room) (s₀ : Sheet) (t₀ : Place) (s₁ : Sheet) (t₁ : Place) : Type 0 where
  pub lines : lines_at x s₁ t₁ ≡ lines_at x s₀ t₀
  pub ready : Ready x r s₁ t₁
  pub number : t₁.number ≡ t₀.number
  pub opened : goes_on t₀ ≡ true → t₀.number ≡ 0 → is_some t₁.spot ≡ true
  pub titled : t₀.spot ≡ None → (here : Spot) → t₁.spot ≡ Some here → ahead s₁ here ≡ [] → ⊥

-- behind lines of the part that is open
abbrev pub behind_put : Place → Lines → Turn
behind_put t p = record { at = p.at; place = record { number = 0; parts = t.parts; next = t.next; spot = p.rest } }

-- Lines ahead were put at the front of a page, and the others are ahead of the place behind them. A refusal's line is always put; where a part is
-- open and none is put, it has ended.
pub record LinesPut (s : Sheet) (t : Place) (out₁ : List ℕ) (a : Turn) : Type 0 where
  pub lines : List Line
  pub ahead_of : (x : Piece) → lines_at x s t ≡ lines ++ lines_at x s a.place
  pub page : take a.at out₁ ≡ flatten lines
  pub within : a.at ≤ length out₁
  pub ready : (x : Piece) (r : Room) → Ready x r s t → Ready x r s a.place
  pub refusal : (t.number ≡ 0 → ⊥) → (lines ≡ [] → ⊥) × (a.place.spot ≡ None)
  pub stops : t.number ≡ 0 → (here : Spot) → t.spot ≡ Some here → lines ≡ [] → (ahead s here ≡ []) × (a.place.spot ≡ None)

-- how far a place is from the end
abbrev pub weight : Piece → Sheet → Place → ℕ
weight x s t = 2 * length (lines_at x s t) + flag (is_some t.spot)

-- ---- texts and files

-- the piece at the front of the arrays that a text or a file was read into
abbrev pub held_piece : Opened → List ℕ → List ℕ → List ℕ → Piece
held_piece o ss ds ws = piece (take o.sizes ss) (take o.deltas ds) (take o.words ws)

-- What was read is opened: the piece is held, and its lines are ahead.
pub record Opens (page : List Line) (r : Room) (ss ds ws starts₁ marks₁ : List ℕ) (o : Opened) : Type 0 where
  pub ahead_of : (s : Sheet) → lines_at (held_piece o ss ds ws) s o.place ≡ page
  pub ready : (s : Sheet) → s.starts ≡ starts₁ → s.marks ≡ marks₁ → Ready (held_piece o ss ds ws) r s o.place

pub record Within (ss ds ws : List ℕ) (o : Opened) : Type 0 where
  pub sizes : o.sizes ≤ length ss
  pub deltas : o.deltas ≤ length ds
  pub words : o.words ≤ length ws

-- a refusal, with no piece
abbrev pub no_piece : ℕ → Opened
no_piece n = record { place = turned_back n; sizes = 0; deltas = 0; words = 0 }

-- the piece at the front of the arrays was opened
pub record FrontOpened (c : Counts) (r : Room) (ss ds ws starts₁ marks₁ : List ℕ) (o : Opened) : Type 0 where
  pub sizes : o.sizes ≡ c.sizes
  pub deltas : o.deltas ≡ c.deltas
  pub words : o.words ≡ c.words
  pub opened : PieceOpened (held_piece o ss ds ws) r starts₁ marks₁ o.place

-- a text of three lines was read into these arrays, whatever piece it is
abbrev pub LinesOpen : Counts → Room → List ℕ → List ℕ → List ℕ → List ℕ → List ℕ → Opened → Type 0
LinesOpen c r ss ds ws starts₁ marks₁ o =
    (x : Piece) → PieceHeld x c ss ds ws → Opens (page_of (note_refusals x ++ room_for r x) x) r ss ds ws starts₁ marks₁ o

-- a text was read into these arrays, whatever text it was
abbrev pub TextOpens : Option Counts → Room → List ℕ → List ℕ → List ℕ → List ℕ → List ℕ → Opened → Type 0
TextOpens read r ss ds ws starts₁ marks₁ o =
    (bs : List ℕ) → Answers (text_piece bs) read ss ds ws → Opens (text_page (room_for r) bs) r ss ds ws starts₁ marks₁ o

-- Of a file's bytes so many were read, more only where it is too large, and those that are held are the file where there are no more of them.
pub record FileRead (bs file : List ℕ) (read most : ℕ) : Type 0 where
  pub within : read ≤ length bs
  pub counted : read ≤ most_bytes → read ≡ length bs
  pub whole : read ≤ most → file ≡ bs

-- a file was read, whatever file it was
abbrev pub FileOpens : List ℕ → ℕ → ℕ → Room → List ℕ → List ℕ → List ℕ → List ℕ → List ℕ → Opened → Type 0
FileOpens file read most r ss ds ws starts₁ marks₁ o =
    (bs : List ℕ) → FileRead bs file read most → Opens (file_page (bytes_for most) (room_for r) bs) r ss ds ws starts₁ marks₁ o
