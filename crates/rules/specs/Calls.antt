-- The calls: what each answers, and what each lent array holds after it, from the inputs and what the arrays held before. The lengths of the lent
-- arrays are part of the inputs: they decide number 8. `told` is how the caller is told the answer: as it is, or as the fields of a C struct.
use Rattle.std.specs.Prelude.{ℕ, Bool, List, [], ◌∷◌, ◌++◌, map, ◌≡◌, length, get_or}
use Rattle.rules.specs.Lists.{written, cleared}
use Rattle.rules.specs.Refusals.{Result, Refusal, unless, answers, writes, piece_refusals, note_refusals, part_refusals}
use Rattle.rules.specs.Refusals.{short_work, short_output, uneven_part, bad_code, bad_dots, bad_key}
use Rattle.rules.specs.Piece.{Piece, Event, ticks_per_quarter}
use Rattle.rules.specs.RawNotes.{RawNote, raw_notes, parts}
use Rattle.rules.specs.Changes.{Head, head, PartHead, part_head}
use Rattle.rules.specs.Bars.{bars, starts, marks}
use Rattle.rules.specs.Grid.{grid}
use Rattle.rules.specs.Values.{beats256}
use Rattle.rules.specs.Items.{StaffArrays, arrays_of, items_of}
use Rattle.rules.specs.Staff.{part_staff, staff_leftovers}
use Rattle.rules.specs.ProofReaderTests.{verdict, even?}
use Rattle.rules.specs.Automation.{AutomationLists, automation_lists}
use Rattle.rules.specs.Diagnostics.{Diagnostic, diagnostics, place_of, detail_of}
use Rattle.rules.specs.Spelling.{Spelling, spelled}
use Rattle.rules.specs.File.{file_piece, file_refusals}

-- part k's track
abbrev pub part_track : Piece → ℕ → List Event
part_track x k = get_or (parts x) k []

-- ---- heads: 1 to 6, a part's 1 to 7

abbrev pub head_call : Piece → Result Head
head_call x = unless (note_refusals x) (head x)

abbrev pub part_count_call : Piece → Result ℕ
part_count_call x = unless (note_refusals x) (length (parts x))

abbrev pub part_head_call : Piece → ℕ → Result PartHead
part_head_call x k = unless (part_refusals x k) (part_head (part_track x k))

-- ---- bars: 1 to 6, 8

pub record BarLists : Type 0 where
  pub starts : List ℕ
  pub marks : List ℕ

-- the piece, and the room for starts and marks
abbrev pub bars_call : Piece → ℕ → ℕ → Result BarLists
bars_call x room_starts room_marks =
    unless (note_refusals x ++ (short_output room_starts (starts x) ∷ short_output room_marks (marks x) ∷ []))
    (record { starts = starts x; marks = marks x })

-- After a call of outcome r: it answers the count of bars.
pub record BarsCalled {A : Type 0} (told : Result ℕ → A) (r : Result BarLists) (starts₀ marks₀ : List ℕ) (answer : A) (starts₁ marks₁ : List ℕ) : Type 0 where
  pub answered : answer ≡ told (answers (λ (b : BarLists). length b.starts) r)
  pub starts : starts₁ ≡ written (writes (λ (b : BarLists). b.starts) r) starts₀
  pub marks : marks₁ ≡ written (writes (λ (b : BarLists). b.marks) r) marks₀

-- ---- staff: 1 to 8

-- A staff's size: its bars and its items.
pub record StaffSize : Type 0 where
  pub bars : ℕ
  pub items : ℕ

abbrev pub part_size : Piece → ℕ → StaffSize
part_size x k = record { bars = length (bars x); items = length (items_of (part_staff x (part_track x k))) }

-- the piece, the part, and the room for work
abbrev pub staff_size_call : Piece → ℕ → ℕ → Result StaffSize
staff_size_call x k work = unless (part_refusals x k ++ (short_work x work ∷ [])) (part_size x k)

pub record StaffSizeCalled {A : Type 0} (told : Result StaffSize → A) (r : Result StaffSize) (work₀ : List ℕ) (answer : A) (work₁ : List ℕ) : Type 0 where
  pub answered : answer ≡ told r
  pub work : work₁ ≡ cleared work₀

abbrev pub part_arrays : Piece → ℕ → StaffArrays
part_arrays x k = arrays_of (part_staff x (part_track x k))

-- M-101: part k's leftovers, four a bar in the order of the counts
abbrev pub part_leftovers : Piece → ℕ → List ℕ
part_leftovers x k = staff_leftovers x (part_track x k)

-- what engraving writes: the staff's three arrays, and its leftovers
pub record EngravedLists : Type 0 where
  pub staff : StaffArrays
  pub leftovers : List ℕ

abbrev pub part_lists : Piece → ℕ → EngravedLists
part_lists x k = record { staff = part_arrays x k; leftovers = part_leftovers x k }

-- the piece, the part, and the room for counts, heads, keys, leftovers and work
abbrev pub engrave_call : Piece → ℕ → ℕ → ℕ → ℕ → ℕ → ℕ → Result EngravedLists
engrave_call x k room_counts room_heads room_keys room_leftovers work =
    unless
    (part_refusals x k
    ++ (short_work x work
    ∷ short_output room_counts (part_arrays x k).counts
    ∷ short_output room_heads (part_arrays x k).heads
    ∷ short_output room_keys (part_arrays x k).keys
    ∷ short_output room_leftovers (part_leftovers x k)
    ∷ []))
    (part_lists x k)

-- It answers the staff's size.
pub record EngraveCalled
    {A : Type 0} (told : Result StaffSize → A) (size : StaffSize) (r : Result EngravedLists) (counts₀ heads₀ keys₀ leftovers₀ work₀ : List ℕ)
    (answer : A) (counts₁ heads₁ keys₁ leftovers₁ work₁ : List ℕ)
    : Type 0 where
  pub answered : answer ≡ told (answers (λ (s : EngravedLists). size) r)
  pub counts : counts₁ ≡ written (writes (λ (s : EngravedLists). s.staff.counts) r) counts₀
  pub heads : heads₁ ≡ written (writes (λ (s : EngravedLists). s.staff.heads) r) heads₀
  pub keys : keys₁ ≡ written (writes (λ (s : EngravedLists). s.staff.keys) r) keys₀
  pub leftovers : leftovers₁ ≡ written (writes (λ (s : EngravedLists). s.leftovers) r) leftovers₀
  pub work : work₁ ≡ cleared work₀

-- ---- automation: 1 to 8

-- the piece, the part, and the room for ticks and words
abbrev pub automation_call : Piece → ℕ → ℕ → ℕ → Result AutomationLists
automation_call x k room_ticks room_words =
    unless
    (part_refusals x k
    ++ (short_output room_ticks (automation_lists (ticks_per_quarter x) (part_track x k)).ticks
    ∷ short_output room_words (automation_lists (ticks_per_quarter x) (part_track x k)).words
    ∷ []))
    (automation_lists (ticks_per_quarter x) (part_track x k))

-- the four counts
pub record AutomationCounts : Type 0 where
  pub bends : ℕ
  pub controllers : ℕ
  pub programs : ℕ
  pub pressures : ℕ

abbrev pub counts_of : AutomationLists → AutomationCounts
counts_of a =
    record { bends = a.bends; controllers = a.controllers; programs = a.programs; pressures = a.pressures }

pub record AutomationCalled
    {A : Type 0} (told : Result AutomationCounts → A) (r : Result AutomationLists) (ticks₀ words₀ : List ℕ) (answer : A) (ticks₁ words₁ : List ℕ)
    : Type 0 where
  pub answered : answer ≡ told (answers counts_of r)
  pub ticks : ticks₁ ≡ written (writes (λ (a : AutomationLists). a.ticks) r) ticks₀
  pub words : words₁ ≡ written (writes (λ (a : AutomationLists). a.words) r) words₀

-- ---- diagnostics: 1 to 5, 8

abbrev pub places : Piece → List ℕ
places x = map place_of (diagnostics x)

abbrev pub details : Piece → List ℕ
details x = map detail_of (diagnostics x)

-- the piece, and the room for places, details and work
abbrev pub diagnostics_call : Piece → ℕ → ℕ → ℕ → Result (List Diagnostic)
diagnostics_call x room_places room_details work =
    unless (piece_refusals x ++ (short_work x work ∷ short_output room_places (places x) ∷ short_output room_details (details x) ∷ []))
    (diagnostics x)

-- It answers the count.
pub record DiagnosticsCalled
    {A : Type 0} (told : Result ℕ → A) (r : Result (List Diagnostic)) (places₀ details₀ work₀ : List ℕ) (answer : A) (places₁ details₁ work₁ : List ℕ)
    : Type 0 where
  pub answered : answer ≡ told (answers length r)
  pub places : places₁ ≡ written (writes (map place_of) r) places₀
  pub details : details₁ ≡ written (writes (map detail_of) r) details₀
  pub work : work₁ ≡ cleared work₀

-- ---- proof-reading: 1 to 9

abbrev pub part_notes : Piece → ℕ → List RawNote
part_notes x k = raw_notes (part_track x k)

-- the part is even: demand 3's premise
abbrev pub part_even : Piece → ℕ → Bool
part_even x k = even? (ticks_per_quarter x) (grid (ticks_per_quarter x) (part_notes x k)) (bars x)

-- A call turned back gives its number before the staff is looked at.
abbrev pub proof_read_refusals : Piece → ℕ → ℕ → List Refusal
proof_read_refusals x k work = part_refusals x k ++ (short_work x work ∷ uneven_part (part_even x k) ∷ [])

-- the piece, the part, the staff, and the room for work
abbrev pub proof_read_call : Piece → ℕ → StaffArrays → ℕ → Result Bool
proof_read_call x k s work = unless (proof_read_refusals x k work) (verdict (ticks_per_quarter x) (part_notes x k) (bars x) s)

pub record ProofReadCalled {A : Type 0} (told : Result Bool → A) (r : Result Bool) (work₀ : List ℕ) (answer : A) (work₁ : List ℕ) : Type 0 where
  pub answered : answer ≡ told r
  pub work : work₁ ≡ cleared work₀

-- ---- beats and spelling: 10

-- code and dots; the length in 256ths of a quarter
abbrev pub beats_call : ℕ → ℕ → Result ℕ
beats_call code dots = unless (bad_code code ∷ bad_dots dots ∷ []) (beats256 code dots)

abbrev pub spelling_call : ℕ → Result Spelling
spelling_call key = unless (bad_key key ∷ []) (spelled key)

-- ---- files: 11, 12, 13, 12, 1 to 5, 8

-- how many sizes and how many events a piece has
pub record PieceSize : Type 0 where
  pub sizes : ℕ
  pub events : ℕ

abbrev pub piece_size : Piece → PieceSize
piece_size x = record { sizes = length x.sizes; events = length x.deltas }

abbrev pub read_size_call : List ℕ → Result PieceSize
read_size_call bs = unless (file_refusals bs) (piece_size (file_piece bs))

-- the file's bytes, and the room for sizes, deltas and words
abbrev pub read_call : List ℕ → ℕ → ℕ → ℕ → Result Piece
read_call bs room_sizes room_deltas room_words =
    unless
    (file_refusals bs
    ++ (short_output room_sizes (file_piece bs).sizes
    ∷ short_output room_deltas (file_piece bs).deltas
    ∷ short_output room_words (file_piece bs).words
    ∷ []))
    (file_piece bs)

-- It answers the piece's size.
pub record ReadCalled
    {A : Type 0} (told : Result PieceSize → A) (r : Result Piece) (sizes₀ deltas₀ words₀ : List ℕ) (answer : A) (sizes₁ deltas₁ words₁ : List ℕ)
    : Type 0 where
  pub answered : answer ≡ told (answers piece_size r)
  pub sizes : sizes₁ ≡ written (writes (λ (x : Piece). x.sizes) r) sizes₀
  pub deltas : deltas₁ ≡ written (writes (λ (x : Piece). x.deltas) r) deltas₀
  pub words : words₁ ≡ written (writes (λ (x : Piece). x.words) r) words₀
