-- Document 01's starred examples, together as one computed table.
use Rattle.std.specs.Prelude.{ℕ, suc, ◌≡◌, refl, ℤ, pos, negsuc, replicate}
use mathlib.Core.List.{List, [], ◌∷◌, ◌++◌, map, flat_map}
use Rattle.rules.specs.Lists.{keep, flag}
use Rattle.rules.specs.RawNotes.{RawNote}
use Rattle.rules.specs.Changes.{Meter, tempo_of}
use Rattle.rules.specs.Bars.{bar_length}
use Rattle.rules.specs.Grid.{snap, is_off_grid, grid}
use Rattle.rules.specs.Values.{Value, values, Split, split_in, split_span, twos, smallest}
use Rattle.rules.specs.Spelling.{Spelling, semitone, spelled}
use Rattle.rules.specs.Automation.{automation_tick}

-- what a definition gives, and what document 01 says
pub record Row : Type 0 where
  pub given : List ℕ
  pub wanted : List ℕ

abbrev pub row : List ℕ → List ℕ → Row
row g w = record { given = g; wanted = w }

abbrev pub one : ℕ → ℕ → Row
one g w = row (g ∷ []) (w ∷ [])

abbrev pub given : List Row → List (List ℕ)
given rs = map (λ (r : Row). r.given) rs

abbrev pub wanted : List Row → List (List ℕ)
wanted rs = map (λ (r : Row). r.wanted) rs

-- ---- how rows are written

-- a note on channel 0
abbrev pub note : ℕ → ℕ → ℕ → RawNote
note start end key = record { start = start; end = end; key = key; channel = 0 }

abbrev pub drum : ℕ → ℕ → ℕ → RawNote
drum start end key = record { start = start; end = end; key = key; channel = 9 }

-- n notes on the grid, and one that is off
abbrev pub one_off_and : ℕ → List RawNote
one_off_and n = note 31 120 60 ∷ replicate n (note 0 120 60)

-- code and dots of each piece, then what is left
abbrev pub piece_row : List Value → List ℕ
piece_row [] = []
piece_row (v ∷ vs) = v.code ∷ v.dots ∷ piece_row vs

abbrev pub split_row : Split → List ℕ
split_row s = piece_row s.pieces ++ (s.left ∷ [])

-- an integer: 1 where it is below 0, and its size
abbrev pub signed : ℤ → List ℕ
signed (pos n) = 0 ∷ n ∷ []
signed (negsuc n) = 1 ∷ suc n ∷ []

-- step (as semitones above C), octave, alteration
abbrev pub spelling_row : Spelling → List ℕ
spelling_row s = semitone s.step ∷ (signed s.octave ++ signed s.alter)

abbrev pub meter : ℕ → ℕ → Meter
meter u l = record { upper = u; lower = l }

-- ---- the starred examples

pub starred : List Row
starred =
    -- smallest value: p 480 gives 30, 12 gives 3, 5 gives 5
    one (smallest 480) 30
    ∷ one (smallest 12) 3
    ∷ one (smallest 5) 5
    -- snap to 120: 59 to 0, 60 to 120
    ∷ one (snap 120 59) 0
    ∷ one (snap 120 60) 120
    -- offset 30 on, 31 off, 89 off, 90 on
    ∷ one (flag (is_off_grid 480 30)) 0
    ∷ one (flag (is_off_grid 480 31)) 1
    ∷ one (flag (is_off_grid 480 89)) 1
    ∷ one (flag (is_off_grid 480 90)) 0
    -- one off in 10 notes: g 120; in 9: g 60
    ∷ one (grid 480 (one_off_and 9)) 120
    ∷ one (grid 480 (one_off_and 8)) 60
    -- span 2280: whole, dotted eighth; p 12, span 5: one of 3, 2 dropped
    ∷ row (split_row (split_span 480 2280)) (2 ∷ 0 ∷ 5 ∷ 1 ∷ 0 ∷ [])
    ∷ row (split_row (split_span 12 5)) (6 ∷ 0 ∷ 2 ∷ [])
    -- 7/8 bar: 1680; p 1, 1/128: 1
    ∷ one (bar_length 480 (meter 7 8)) 1680
    ∷ one (bar_length 1 (meter 1 128)) 1
    -- tempo 915 gives 37; 500,000 gives 120
    ∷ one (tempo_of 915) 37
    ∷ one (tempo_of 500000) 120
    -- tick 1 at p 96 becomes 5
    ∷ one (automation_tick 96 1) 5
    -- key 61 is C sharp 4
    ∷ row (spelling_row (spelled 61)) (0 ∷ 0 ∷ 4 ∷ 0 ∷ 1 ∷ [])
    ∷ []

pub starred_hold : given starred ≡ wanted starred
unfolding starred twos is_off_grid grid split_in keep values flat_map
starred_hold = refl
