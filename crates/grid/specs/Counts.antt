-- What the contracts of `grid` cite: one event counted; and what is claimed of the starts of raw notes.
use Rattle.std.specs.Prelude.{ℕ, ◌+◌, Bool, ◌&&◌, List, ◌≡◌, length}
use Rattle.rules.specs.Lists.{keep, flag}
use Rattle.rules.specs.Grid.{is_off_grid}
use Rattle.rules.specs.Piece.{Event, is_on}
use Rattle.rules.specs.RawNotes.{RawNote, raw_notes}
use Rattle.grid.specs.declared.Starts.{Starts}

-- the tick, the ons and the ons off the grid, after one event more
abbrev pub counted : ℕ → Starts → ℕ → ℕ → Starts
counted p s d w =
    record {
      tick = s.tick + d;
      ons = s.ons + flag (is_on w);
      offs = s.offs + flag (is_on w && is_off_grid p (s.tick + d));
    }

-- The raw notes whose start passes a test are as many as the ons whose tick does.
abbrev pub StartCounts : Type 0
StartCounts = (f : ℕ → Bool) (es : List Event)
    → length (keep (λ (n : RawNote). f n.start) (raw_notes es)) ≡ length (keep (λ (e : Event). is_on e.word && f e.tick) es)
