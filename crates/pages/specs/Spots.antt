-- A spot of a part's page: the lines ahead of it, read from the arrays that the calls write.
use Rattle.std.specs.Prelude.{ℕ, zero, suc, ◌+◌, ◌-◌, ◌*◌, ◌/◌, ◌%◌, ◌≤◌, cond, ◌≡◌, eqb, length, get_or, take, Option, Some, None}
use mathlib.Core.List.{List, [], ◌∷◌, ◌++◌, flatten}
use Rattle.line_text.specs.Text.{Adds}
use Rattle.item_lines.specs.Items.{item_line}
use Rattle.bar_lines.specs.Lines.{bar_line, part_line}
use Rattle.pages.specs.Page.{Line}
use Rattle.pages.specs.declared.Spot.{Spot}
use Rattle.pages.specs.declared.Put.{Put}
use Rattle.pages.specs.declared.Lines.{Lines}

-- the arrays: a staff's three, and the bars' two
pub record Sheet : Type 0 where
  pub counts : List ℕ
  pub heads : List ℕ
  pub keys : List ℕ
  pub starts : List ℕ
  pub marks : List ℕ

abbrev pub sheet : List ℕ → List ℕ → List ℕ → List ℕ → List ℕ → Sheet
sheet cs hs ks ss ms = record { counts = cs; heads = hs; keys = ks; starts = ss; marks = ms }

-- n items of a voice, from item i on
unfoldable pub items_at : Sheet → ℕ → ℕ → ℕ → List Line
items_at s voice zero i = []
items_at s voice (suc n) i =
    item_line voice (get_or s.heads i 0) (get_or s.keys (2 * i) 0) (get_or s.keys (2 * i + 1) 0) ∷ items_at s voice n (i + 1)

-- the line of the bar whose first count is count c
abbrev pub bar_at : Sheet → ℕ → ℕ → List Line
bar_at s p c = cond (eqb (c % 4) 0) (bar_line p (c / 4 + 1) (get_or s.starts (c / 4) 0) (get_or s.marks (c / 4) 0) ∷ []) []

-- n counts from count c on, the first item of which is item i
unfoldable pub counts_at : Sheet → ℕ → ℕ → ℕ → ℕ → List Line
counts_at s p zero c i = []
counts_at s p (suc n) c i =
    bar_at s p c ++ (items_at s (c % 4) (get_or s.counts c 0) i ++ counts_at s p n (c + 1) (i + get_or s.counts c 0))

-- the items of n counts from count c on
unfoldable pub items_from : Sheet → ℕ → ℕ → ℕ
items_from s zero c = 0
items_from s (suc n) c = get_or s.counts c 0 + items_from s n (c + 1)

-- the spot at a part's front
abbrev pub begun : ℕ → ℕ → ℕ → Spot
begun k p bars = record { title = Some k; p = p; bars = bars; next = 0; voice = 0; left = 0; item = 0 }

-- a part's line, where it is not put yet
abbrev pub title_lines : Option ℕ → ℕ → List Line
title_lines None bars = []
title_lines (Some k) bars = part_line k bars ∷ []

-- The lines ahead of a spot: the part's line where it is not put yet, the items left of a voice, and the counts behind it.
abbrev pub ahead : Sheet → Spot → List Line
ahead s t =
    title_lines t.title t.bars
    ++ (items_at s t.voice t.left t.item ++ counts_at s t.p (4 * t.bars - t.next) t.next (t.item + t.left))

-- those of what is left, where anything is
abbrev pub ahead_on : Sheet → Option Spot → List Line
ahead_on s None = []
ahead_on s (Some t) = ahead s t

-- the arrays hold all that is ahead
pub record Fits (s : Sheet) (t : Spot) : Type 0 where
  pub small : t.p ≤ 65535
  pub next : t.next ≤ 4 * t.bars
  pub counts : 4 * t.bars ≤ length s.counts
  pub starts : t.bars ≤ length s.starts
  pub marks : t.bars ≤ length s.marks
  pub heads : t.item + t.left + items_from s (4 * t.bars - t.next) t.next ≤ length s.heads
  pub keys : 2 * (t.item + t.left + items_from s (4 * t.bars - t.next) t.next) ≤ length s.keys

-- The first line ahead was put behind the first bytes of a page.
pub record LinePut (s : Sheet) (t : Spot) (at : ℕ) (out₀ : List ℕ) (r : Put) (out₁ : List ℕ) : Type 0 where
  pub line : Line
  pub went : ahead s t ≡ line ∷ ahead s r.spot
  pub adds : Adds 4096 line at out₀ r.at out₁
  pub fits : Fits s r.spot

-- So it was; or none was ahead, and the page is as it was.
abbrev pub PutsLine : Sheet → Spot → ℕ → List ℕ → Option Put → List ℕ → Type 0
PutsLine s t at out₀ None out₁ = (ahead s t ≡ []) × (out₁ ≡ out₀)
PutsLine s t at out₀ (Some r) out₁ = LinePut s t at out₀ r out₁

-- Some lines ahead were put at the front of a page, one or more of them unless none was ahead.
pub record PutsLines (s : Sheet) (t : Spot) (r : Lines) (out₁ : List ℕ) : Type 0 where
  pub lines : List Line
  pub ahead_of : ahead s t ≡ lines ++ ahead_on s r.rest
  pub page : take r.at out₁ ≡ flatten lines
  pub within : r.at ≤ length out₁
  pub fits : (here : Spot) → r.rest ≡ Some here → Fits s here
  pub some : (here : Spot) → r.rest ≡ Some here → lines ≡ [] → ⊥
