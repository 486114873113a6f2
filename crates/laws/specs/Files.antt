-- What is claimed of files: what always suffices for a file's piece, and which of a piece's numbers may come.
use Rattle.std.specs.Prelude.{ℕ, ◌+◌, ◌/◌, ◌≤◌, ◌<◌, true, cond, List, ◌≡◌, eqb, ltb, length}
use Rattle.std.proofs.Math.Option.{Option}
use Rattle.rules.specs.Lists.{All, every}
use Rattle.rules.specs.Piece.{division, sizes_agree, well_formed}
use Rattle.rules.specs.Refusals.{first_number, piece_refusals, most_events, largest_delta}
use Rattle.rules.specs.File.{Timed, events_in, file_piece}

-- the events of some bytes, under a running status: a track's are those under none
abbrev pub events_from : ℕ → List ℕ → Option (List Timed)
events_from running bs = events_in (length bs) running bs

-- numbers of eight bits
abbrev pub Bytes : List ℕ → Type 0
Bytes bs = All (λ b. b < 0x100) bs

-- What always suffices: half as many events as the file has bytes, and two sizes more than a twelfth of them.
pub record Suffices (bs : List ℕ) : Type 0 where
  pub deltas : length (file_piece bs).deltas ≤ length bs / 2
  pub words : length (file_piece bs).words ≤ length bs / 2
  pub sizes : length (file_piece bs).sizes ≤ 2 + length bs / 12

-- Of bytes, the sizes agree and the deltas are in range: 1 and 4 never come from a file, and 2, 3 and 5 come in this order.
pub record FileNumbers (bs : List ℕ) : Type 0 where
  pub sizes : sizes_agree (file_piece bs) ≡ true
  pub deltas : All (λ d. d ≤ largest_delta) (file_piece bs).deltas
  pub number : first_number (piece_refusals (file_piece bs))
      ≡ cond (eqb (division (file_piece bs)) 0) 2
      (cond (ltb most_events (length (file_piece bs).deltas)) 3 (cond (every well_formed (file_piece bs).words) 0 5))
