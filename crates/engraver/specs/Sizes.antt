-- The staff of some voices in some bars: its size, the room that it takes, and what writing it comes to.
use Rattle.std.specs.Prelude as std
use Rattle.std.specs.Prelude.{ℕ, ◌/◌, Bool, ◌&&◌, List, [], ◌∷◌, ◌≡◌, leb, length}
use Rattle.rules.specs.Lists.{written}
use Rattle.rules.specs.Bars.{Bar}
use Rattle.rules.specs.Voices.{Chord}
use Rattle.rules.specs.Items.{items_of, arrays_of}
use Rattle.rules.specs.Staff.{staff_of, leftovers_of}
use Rattle.rules.specs.Refusals.{Result, refused, given, unless, answers, writes, short_output}
use Rattle.rules.specs.Calls.{StaffSize, EngravedLists}
use Rattle.engraver.specs.declared.Size.{Size}

abbrev pub size_by : ℕ → List Bar → List (List Chord) → StaffSize
size_by p bs vs = record { bars = length bs; items = length (items_of (staff_of p vs bs)) }

abbrev pub lists_by : ℕ → List Bar → List (List Chord) → EngravedLists
lists_by p bs vs = record { staff = arrays_of (staff_of p vs bs); leftovers = leftovers_of p vs bs }

abbrev pub size_of : Size → StaffSize
size_of r = record { bars = r.bars; items = r.items }

-- outputs of these lengths have room for a staff of this size
abbrev pub room_for : StaffSize → ℕ → ℕ → ℕ → ℕ → Bool
room_for s room_counts room_heads room_keys room_leftovers =
    leb s.bars (room_counts / 4) && (leb s.items room_heads && (leb s.items (room_keys / 2) && leb s.bars (room_leftovers / 4)))

-- what writing its lists comes to, with this room: 8 is all that is left to refuse
abbrev pub outcome : EngravedLists → ℕ → ℕ → ℕ → ℕ → Result EngravedLists
outcome a room_counts room_heads room_keys room_leftovers =
    unless
    (short_output room_counts a.staff.counts
    ∷ short_output room_heads a.staff.heads
    ∷ short_output room_keys a.staff.keys
    ∷ short_output room_leftovers a.leftovers
    ∷ [])
    a

-- After an outcome o: the answer is the size, and the four outputs hold the staff's arrays and its leftovers.
pub record Outputs
    (size : StaffSize) (o : Result EngravedLists) (counts₀ heads₀ keys₀ leftovers₀ counts₁ heads₁ keys₁ leftovers₁ : List ℕ) (r : Result StaffSize)
    : Type 0 where
  pub answered : r ≡ answers (λ (s : EngravedLists). size) o
  pub counts : counts₁ ≡ written (writes (λ (s : EngravedLists). s.staff.counts) o) counts₀
  pub heads : heads₁ ≡ written (writes (λ (s : EngravedLists). s.staff.heads) o) heads₀
  pub keys : keys₁ ≡ written (writes (λ (s : EngravedLists). s.staff.keys) o) keys₀
  pub leftovers : leftovers₁ ≡ written (writes (λ (s : EngravedLists). s.leftovers) o) leftovers₀

-- no room is refused by number 8
abbrev pub result_of : std.Option Size → Result StaffSize
result_of std.None = refused 8
result_of (std.Some s) = given (size_of s)

abbrev pub StaffWritten : ℕ → List Bar → List (List Chord) → (counts₀ heads₀ keys₀ leftovers₀ counts₁ heads₁ keys₁ leftovers₁ : List ℕ) → std.Option Size → Type 0
StaffWritten p bs vs counts₀ heads₀ keys₀ leftovers₀ counts₁ heads₁ keys₁ leftovers₁ r =
    Outputs (size_by p bs vs) (outcome (lists_by p bs vs) (length counts₀) (length heads₀) (length keys₀) (length leftovers₀))
    counts₀ heads₀ keys₀ leftovers₀ counts₁ heads₁ keys₁ leftovers₁ (result_of r)
