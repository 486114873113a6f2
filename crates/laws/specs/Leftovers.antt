-- M-101: what is written of a bar and what is left over are the bar, for a reader; their proofs are in proofs/Leftovers.antt.
use Rattle.std.specs.Prelude.{ℕ, ◌+◌, ◌*◌, ◌/◌, ◌%◌, ◌≤◌, ◌<◌, Bool, true, false, ◌≡◌, eqb, length, get_or}
use Rattle.std.specs.Int.{◌∣◌}
use mathlib.Core.List.{List, [], map, flatten}
use Rattle.rules.specs.Lists.{All, sum}
use Rattle.rules.specs.Piece.{Piece, ticks_per_quarter}
use Rattle.rules.specs.RawNotes.{RawNote}
use Rattle.rules.specs.Bars.{Bar, bars}
use Rattle.rules.specs.Changes.{common_time}
use Rattle.rules.specs.Grid.{grid}
use Rattle.rules.specs.Voices.{Chord, voices}
use Rattle.rules.specs.Values.{smallest}
use Rattle.rules.specs.Items.{Item}
use Rattle.rules.specs.Staff.{is_written, engraved_on, part_staff, leftovers_on}
use Rattle.rules.specs.ProofReader.{item_ticks}
use Rattle.rules.specs.Calls.{part_track, part_notes, part_even, part_leftovers}
use Rattle.laws.specs.Admitted.{Admitted}
use Rattle.laws.specs.Lines.{Consecutive}

-- the written length of items
abbrev pub written_ticks : ℕ → List Item → ℕ
written_ticks p is = sum (map (item_ticks p) is)

-- Counts and leftovers stand four a bar: the i-th are of bar i / 4 and voice i % 4.
abbrev pub bar_at : List Bar → ℕ → Bar
bar_at bs i = get_or bs (i / 4) (record { start = 0; len = 0; meter = common_time })

-- voice 0, or a voice with something sounding in the bar
abbrev pub sounds_at : List (List Chord) → List Bar → ℕ → Bool
sounds_at vs bs i = is_written (eqb (i % 4) 0) (bar_at bs i) (get_or vs (i % 4) [])

-- Items cut by voices, bar by bar, and leftovers. For voice 0 and each voice that sounds in the bar, written length and leftover are the bar's
-- length; any other voice has leftover 0.
pub record AddUp (p : ℕ) (vs : List (List Chord)) (bs : List Bar) (items : List (List Item)) (leftovers : List ℕ) : Type 0 where
  pub four : length leftovers ≡ 4 * length bs
  pub whole : (i : ℕ) → i < 4 * length bs → sounds_at vs bs i ≡ true → written_ticks p (get_or items i []) + get_or leftovers i 0 ≡ (bar_at bs i).len
  pub silent : (i : ℕ) → i < 4 * length bs → sounds_at vs bs i ≡ false → get_or leftovers i 0 ≡ 0

-- at any division and on any grid
abbrev pub LeftoversAddUp : Type 0
LeftoversAddUp = (p g : ℕ) (ns : List RawNote) (bs : List Bar) → 0 < p → 0 < g → All (λ (b : Bar). 0 < b.len) bs
    → AddUp p (voices g ns) bs (flatten (engraved_on p g ns bs)) (leftovers_on p g ns bs)

-- of every part of every admitted piece
abbrev pub PartAddsUp : Type 0
PartAddsUp = (x : Piece) (k : ℕ) → Admitted x
    → AddUp (ticks_per_quarter x) (voices (grid (ticks_per_quarter x) (part_notes x k)) (part_notes x k)) (bars x)
    (flatten (part_staff x (part_track x k))) (part_leftovers x k)

-- Where all is a multiple of the smallest written value, nothing is left over ..
abbrev pub EvenLeavesNothing : Type 0
EvenLeavesNothing = (p g : ℕ) (ns : List RawNote) (bs : List Bar) → 0 < p → 0 < g → smallest p ∣ g → Consecutive 0 bs
    → All (λ (b : Bar). smallest p ∣ b.len) bs → All (λ (n : ℕ). n ≡ 0) (leftovers_on p g ns bs)

-- .. so an even part has leftovers 0 everywhere.
abbrev pub EvenPartLeavesNothing : Type 0
EvenPartLeavesNothing = (x : Piece) (k : ℕ) → Admitted x → part_even x k ≡ true → All (λ (n : ℕ). n ≡ 0) (part_leftovers x k)

-- A leftover is no longer than its bar, and a bar of an admitted piece has at most 33,422,340 ticks (32,767 a quarter, 255/1): 32 bits hold both.
abbrev pub BarsShort : Type 0
BarsShort = (x : Piece) → Admitted x → All (λ (b : Bar). b.len ≤ 33422340) (bars x)

abbrev pub LeftoversShort : Type 0
LeftoversShort = (x : Piece) (k : ℕ) → Admitted x → All (λ (n : ℕ). n ≤ 33422340) (part_leftovers x k)
