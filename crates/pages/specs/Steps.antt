-- One step of a spot: the spots behind a line, which count is the next to give a line, and what it is to put one line and go on.
use Rattle.std.specs.Prelude.{ℕ, ◌+◌, ◌-◌, ◌*◌, ◌%◌, ◌≤◌, ◌<◌, List, ◌≡◌, get_or, None}
use Rattle.line_text.specs.Text.{Adds}
use Rattle.pages.specs.Page.{Line}
use Rattle.pages.specs.Spots.{Sheet, counts_at, items_from, Fits}
use Rattle.pages.specs.declared.Spot.{Spot}
use Rattle.pages.specs.declared.Put.{Put}

-- the spot behind the part's line
abbrev pub titled_of : Spot → Spot
titled_of t = record { title = None; p = t.p; bars = t.bars; next = t.next; voice = t.voice; left = t.left; item = t.item }

-- the spot behind the next item
abbrev pub item_put : Spot → Spot
item_put t =
    record { title = t.title; p = t.p; bars = t.bars; next = t.next; voice = t.voice; left = t.left - 1; item = t.item + 1 }

-- the spot in the voice of count c, which has n items
abbrev pub in_voice : Spot → ℕ → ℕ → Spot
in_voice t c n = record { title = t.title; p = t.p; bars = t.bars; next = c + 1; voice = c % 4; left = n; item = t.item }

-- a line was put, and the spot is this one
pub record Steps (line : Line) (t : Spot) (at : ℕ) (out₀ : List ℕ) (r : Put) (out₁ : List ℕ) : Type 0 where
  pub spot : r.spot ≡ t
  pub adds : Adds 4096 line at out₀ r.at out₁

-- from count c to count k, up to the end, there is neither a bar nor an item
pub record Passed (cs : List ℕ) (c end k : ℕ) : Type 0 where
  pub from : c ≤ k
  pub within : k ≤ end
  pub lines : (s : Sheet) (p i : ℕ) → s.counts ≡ cs → counts_at s p (end - c) c i ≡ counts_at s p (end - k) k i
  pub items : (s : Sheet) → s.counts ≡ cs → items_from s (end - c) c ≡ items_from s (end - k) k

-- and at count k there is a bar, an item or the end
pub record Due (cs : List ℕ) (c end k : ℕ) : Type 0 where
  pub passed : Passed cs c end k
  pub found : k < end → (k % 4 ≡ 0 → ⊥) → 0 < get_or cs k 0

-- a spot whose next line is at count c
pub record DueAt (s : Sheet) (t : Spot) (c : ℕ) : Type 0 where
  pub fits : Fits s t
  pub titled : t.title ≡ None
  pub none : t.left ≡ 0
  pub within : c < 4 * t.bars
  pub due : Due s.counts t.next (4 * t.bars) c
