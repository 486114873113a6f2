-- Section 5, the grid and snapping: what the engraver and the proof-reader both go by.
use Rattle.std.specs.Prelude.{ℕ, ◌+◌, ◌-◌, ◌*◌, ◌/◌, ◌%◌, max, Bool, cond, ◌&&◌, List, ltb, length}
use Rattle.rules.specs.Lists.{keep}
use Rattle.rules.specs.RawNotes.{RawNote}

-- The sixteenth, q of document 01, and the tolerance t.
abbrev pub sixteenth : ℕ → ℕ
sixteenth p = max 1 (p / 4)

abbrev pub tolerance : ℕ → ℕ
tolerance p = sixteenth p / 4

-- A start is off if its remainder by q is above t and below q - t.
unfoldable pub is_off_grid : ℕ → ℕ → Bool
is_off_grid p start = ltb (tolerance p) (start % sixteenth p) && ltb (start % sixteenth p) (sixteenth p - tolerance p)

abbrev pub off_count : ℕ → List RawNote → ℕ
off_count p ns = length (keep (λ (n : RawNote). is_off_grid p n.start) ns)

-- The grid g: a thirty-second if more than a tenth of the notes are off, else a sixteenth.
unfoldable pub grid : ℕ → List RawNote → ℕ
grid p ns = cond (ltb (length ns) (off_count p ns * 10)) (max 1 (p / 8)) (sixteenth p)

-- Snapping to the grid.
abbrev pub snap : ℕ → ℕ → ℕ
snap g t = (t + g / 2) / g * g

-- A snapped note: its end is at least its start + g.
abbrev pub snapped : ℕ → RawNote → RawNote
snapped g n =
    record { start = snap g n.start; end = max (snap g n.end) (snap g n.start + g); key = n.key; channel = n.channel }
