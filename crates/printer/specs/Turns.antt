-- A turn of the program: the place behind it is ready, and nearer to the end.
use Rattle.std.specs.Prelude.{ℕ, ◌<◌, true, List, ◌≡◌}
use Rattle.rules.specs.Piece.{Piece}
use Rattle.pages.specs.Page.{Room}
use Rattle.pages.specs.Spots.{Sheet}
use Rattle.page_openings.specs.Places.{goes_on, Ready, weight, held_piece}
use Rattle.page_openings.specs.declared.Place.{Place}
use Rattle.page_openings.specs.declared.Opened.{Opened}

pub record Nearer (x : Piece) (r : Room) (s₀ : Sheet) (t₀ : Place) (s₁ : Sheet) (t₁ : Place) : Type 0 where
  pub ready : Ready x r s₁ t₁
  pub less : goes_on t₀ ≡ true → weight x s₁ t₁ < weight x s₀ t₀

-- what was opened is ready for any staff arrays
abbrev pub ReadyFor : Opened → Room → List ℕ → List ℕ → List ℕ → List ℕ → List ℕ → Type 0
ReadyFor o r ss ds ws starts marks =
    (s : Sheet) → s.starts ≡ starts → s.marks ≡ marks → Ready (held_piece o ss ds ws) r s o.place
