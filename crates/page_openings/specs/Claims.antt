-- What a program prints: a run of the functions that open and put, and the page that it writes.
use Rattle.std.specs.Prelude.{ℕ, true, false, ◌≡◌, take}
use mathlib.Core.List.{List, [], ◌++◌, flatten}
use Rattle.rules.specs.Piece.{Piece}
use Rattle.pages.specs.Page.{Line, Room}
use Rattle.pages.specs.Spots.{Sheet}
use Rattle.page_openings.specs.Places.{goes_on, PartOpened, LinesPut, held_piece, Opens}
use Rattle.page_openings.specs.declared.Place.{Place}
use Rattle.page_openings.specs.declared.Turn.{Turn}
use Rattle.page_openings.specs.declared.Opened.{Opened}

-- The bytes that are written from a place on: while `goes_on` says so, what `open_next` and then `put_lines` answer, by their contracts, is written and
-- gone on from.
pub data Prints (x : Piece) (r : Room) : Sheet → Place → List ℕ → Type 0 where
  ends : {s : Sheet} {t : Place} → goes_on t ≡ false → Prints x r s t []
  turns : {s₀ s₁ : Sheet} {t₀ t₁ : Place} (out : List ℕ) (a : Turn) {bytes : List ℕ} → goes_on t₀ ≡ true → PartOpened x r s₀ t₀ s₁ t₁
      → LinesPut s₁ t₁ out a → Prints x r s₁ a.place bytes → Prints x r s₀ t₀ (take a.at out ++ bytes)

-- From the opening of a text or a file (`Opens`: the contracts of `open_text` and `open_file`) to the end, its page is written: all its lines in order.
abbrev pub PrintsPage : Type 0
PrintsPage =
    (page : List Line) (r : Room) (ss ds ws starts₁ marks₁ : List ℕ) (o : Opened) (s : Sheet) (bytes : List ℕ)
    → Opens page r ss ds ws starts₁ marks₁ o
    → Prints (held_piece o ss ds ws) r s o.place bytes
    → bytes ≡ flatten page
