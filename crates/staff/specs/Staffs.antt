-- The staff as a whole: what is asked, and what is written.
use Rattle.std.specs.Prelude.{ℕ, ◌≤◌, Bool, true, List, ◌≡◌, length}
use Rattle.rules.specs.Bars.{Bar, bars_in}
use Rattle.rules.specs.Items.{Staff, items_of, arrays_of}
use Rattle.track_events.specs.Track.{events_of}
use Rattle.items.specs.Putting.{Put}
use Rattle.staff.specs.declared.Engraving.{Engraving}

-- the bars by a track's changes, up to an end tick and a limit
abbrev pub bars_of : List ℕ → List ℕ → ℕ → ℕ → ℕ → List Bar
bars_of ds ws p end limit = bars_in limit p (events_of ds ws) end

-- outputs with room for a staff and its leftovers, where it is written
pub record StaffRoom (write : Bool) (st : Staff) (ls counts heads keys leftovers : List ℕ) : Type 0 where
  pub counts_fit : write ≡ true → length (arrays_of st).counts ≤ length counts
  pub heads_fit : write ≡ true → length (arrays_of st).heads ≤ length heads
  pub keys_fit : write ≡ true → length (arrays_of st).keys ≤ length keys
  pub leftovers_fit : write ≡ true → length ls ≤ length leftovers

-- The staff of some voices in some bars: how many bars and items it has, its three arrays, and its leftovers.
pub record StaffPut
    (write : Bool) (bs : List Bar) (st : Staff) (ls counts₀ heads₀ keys₀ leftovers₀ counts₁ heads₁ keys₁ leftovers₁ : List ℕ) (r : Engraving)
    : Type 0 where
  pub bars : r.bars ≡ length bs
  pub items : r.items ≡ length (items_of st)
  pub counts : Put write (arrays_of st).counts 0 counts₀ counts₁
  pub heads : Put write (arrays_of st).heads 0 heads₀ heads₁
  pub keys : Put write (arrays_of st).keys 0 keys₀ keys₁
  pub leftovers : Put write ls 0 leftovers₀ leftovers₁
