-- What the laws say of the rules, for a reader: their proofs are in proofs/.
use Rattle.std.specs.Prelude.{ℕ, ◌≤◌, ◌<◌, List, ◌↔◌, ◌⊎◌, ◌≡◌, length}
use Rattle.rules.specs.Lists.{All}
use Rattle.rules.specs.Piece.{Piece}
use Rattle.rules.specs.RawNotes.{RawNote}
use Rattle.rules.specs.Bars.{Bar, end_of_piece, bars, last_bar_end}
use Rattle.rules.specs.Grid.{grid}
use Rattle.rules.specs.Items.{Staff, StaffArrays, read_staff}
use Rattle.rules.specs.ProofReader.{Full, AllFound, AllMeant, AllEnd, Right, WellFormed, ProofRead}
use Rattle.rules.specs.ProofReaderTests.{verdict}
use Rattle.laws.specs.Says.{Says}

-- Bars stop at the end of the piece, or at 10,000: there are no more, with fewer the end is reached, and but for bar 1 none starts there or later.
pub record BarsStop (x : Piece) : Type 0 where
  pub most : length (bars x) ≤ 10000
  pub reached : length (bars x) < 10000 → end_of_piece x ≤ last_bar_end (bars x)
  pub before : All (λ (b : Bar). (b.start ≡ 0) ⊎ (b.start < end_of_piece x)) (bars x)

-- The proof-reader says yes exactly if the staff is well formed and right: no yes too many, and none too few.
abbrev pub YesExactly : Type 0
YesExactly = (p : ℕ) (notes : List RawNote) (bs : List Bar) (s : StaffArrays) → Says (verdict p notes bs s) (ProofRead p notes bs s)

-- What is asked of a well formed staff: full bars, and the three points on the raw notes.
pub record PlaysNotes (p : ℕ) (notes : List RawNote) (bs : List Bar) (s : StaffArrays) : Type 0 where
  pub full : Full p bs (read_staff s)
  pub found : AllFound p (grid p notes) notes bs (read_staff s)
  pub meant : AllMeant p (grid p notes) notes bs (read_staff s)
  pub ends : AllEnd p (grid p notes) notes bs (read_staff s)

abbrev pub FormedExactly : Type 0
FormedExactly = (p : ℕ) (notes : List RawNote) (bs : List Bar) (s : StaffArrays) → WellFormed p bs s
    → ProofRead p notes bs s ↔ PlaysNotes p notes bs s

-- A right staff has as many bars as there are: none is missing, and none is spare.
abbrev pub RightBars : Type 0
RightBars = (p g : ℕ) (notes : List RawNote) (bs : List Bar) (st : Staff) → Right p g notes bs st → length st ≡ length bs
