-- Computed witnesses beside the theorem: there is a part that it speaks of, the verdict is not always yes, and well formed is not yet right.
use Rattle.std.specs.Prelude.{true, false, [], ◌∷◌, ◌≡◌, ◌+◌, ◌^◌}
use Rattle.rules.specs.Piece.{Piece}
use Rattle.rules.specs.Items.{StaffArrays}
use Rattle.rules.specs.Refusals.{refused, given}
use Rattle.rules.specs.Calls.{part_arrays, proof_read_call}
use Rattle.rules.specs.FurtherExamples.{printed_piece}
use Rattle.agreement.specs.Demand.{FormedFor}
use Rattle.agreement.specs.Together.{together_call}

-- the printed example's staff: a quarter of key 60 and a dotted half rest
abbrev pub printed_staff : StaffArrays
printed_staff = record { counts = 2 ∷ 0 ∷ 0 ∷ 0 ∷ []; heads = 4 ∷ 275 ∷ []; keys = 2 ^ 60 ∷ 0 ∷ 0 ∷ 0 ∷ [] }

-- one bit of its keys changed: key 61 sounds too
abbrev pub other_keys : StaffArrays
other_keys = record { counts = 2 ∷ 0 ∷ 0 ∷ 0 ∷ []; heads = 4 ∷ 275 ∷ []; keys = (2 ^ 60 + 2 ^ 61) ∷ 0 ∷ 0 ∷ 0 ∷ [] }

-- the quarter alone: nothing fills the rest of the bar
abbrev pub unfilled : StaffArrays
unfilled = record { counts = 1 ∷ 0 ∷ 0 ∷ 0 ∷ []; heads = 4 ∷ []; keys = 2 ^ 60 ∷ 0 ∷ [] }

-- five ticks per quarter: the grid is 1, the smallest written value 5
abbrev pub uneven_piece : Piece
uneven_piece = record { sizes = 5 ∷ 1 ∷ 2 ∷ []; deltas = 0 ∷ 5 ∷ []; words = 151010368 ∷ 134233088 ∷ [] }

-- a work area for one note, and room for the staff
pub record Witnesses : Type 0 where
  pub engraved : part_arrays printed_piece 0 ≡ printed_staff
  pub yes : proof_read_call printed_piece 0 printed_staff 4112 ≡ given true
  pub no : proof_read_call printed_piece 0 other_keys 4112 ≡ given false
  pub unfilled_formed : FormedFor printed_piece unfilled
  pub unfilled_no : proof_read_call printed_piece 0 unfilled 4112 ≡ given false
  pub uneven : proof_read_call uneven_piece 0 printed_staff 4112 ≡ refused 9
  pub short_work : proof_read_call printed_piece 0 printed_staff 4111 ≡ refused 8
  pub together : together_call printed_piece 0 4 2 4 4 4112 ≡ given (record { size = record { bars = 1; items = 2 }; verdict = given true })
  pub short_heads : together_call printed_piece 0 4 1 4 4 4112 ≡ refused 8
  pub short_leftovers : together_call printed_piece 0 4 2 4 3 4112 ≡ refused 8
  pub uneven_together : together_call uneven_piece 0 100 100 100 100 4112
      ≡ given (record { size = record { bars = 1; items = 2 }; verdict = refused 9 })
