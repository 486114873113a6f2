-- Demand 3 in one statement, about what the calls answer: engraver and proof-reader are two parties that share only one part's raw notes, the
-- division and the bars; the proof-reader says yes exactly when the staff is right, and yes to every staff that the engraver writes, where the
-- part is even.
use Rattle.std.specs.Prelude.{ℕ, ◌*◌, ◌≤◌, Bool, true, false, List, ◌↔◌, ◌≡◌, length, take}
use Rattle.rules.specs.Piece.{Piece, ticks_per_quarter}
use Rattle.rules.specs.Bars.{bars}
use Rattle.rules.specs.Items.{StaffArrays}
use Rattle.rules.specs.ProofReader.{WellFormed, ProofRead}
use Rattle.rules.specs.Refusals.{Result, given, as_it_is, part_refusals, work_needed}
use Rattle.rules.specs.Calls.{StaffSize, part_notes, part_even, part_size, EngravedLists, engrave_call, EngraveCalled}
use Rattle.rules.specs.Calls.{proof_read_refusals, proof_read_call, ProofReadCalled}
use Rattle.laws.specs.Admitted.{Passes}
use Rattle.laws.specs.Claims.{PlaysNotes}

-- ---- runs of the calls: what the contracts of `engrave` and `proof_read` say of them

-- `engrave` on part k, with the outputs lent, and as it left them
abbrev pub Engraves : Piece → ℕ → EngravedLists → List ℕ → Result StaffSize → EngravedLists → List ℕ → Type 0
Engraves x k lent work₀ answer left work₁ =
    EngraveCalled as_it_is (part_size x k)
    (engrave_call x k (length lent.staff.counts) (length lent.staff.heads) (length lent.staff.keys) (length lent.leftovers)
    (length work₀))
    lent.staff.counts lent.staff.heads lent.staff.keys lent.leftovers work₀
    answer left.staff.counts left.staff.heads left.staff.keys left.leftovers work₁

-- `proof_read` on part k and a staff
abbrev pub Reads : Piece → ℕ → StaffArrays → List ℕ → Result Bool → List ℕ → Type 0
Reads x k s work₀ answer work₁ = ProofReadCalled as_it_is (proof_read_call x k s (length work₀)) work₀ answer work₁

-- what is handed over of a staff's outputs: as much as was written, unused space left off
abbrev pub used : StaffSize → StaffArrays → StaffArrays
used size out =
    record {
      counts = take (4 * size.bars) out.counts;
      heads = take size.items out.heads;
      keys = take (2 * size.items) out.keys;
    }

-- and so of the leftovers: four a bar
abbrev pub used_leftovers : StaffSize → List ℕ → List ℕ
used_leftovers size out = take (4 * size.bars) out

-- ---- what they share

-- part k of one piece and part j of another have the same raw notes, division (as ticks per quarter) and bars
pub record Shares (x : Piece) (k : ℕ) (y : Piece) (j : ℕ) : Type 0 where
  pub notes : part_notes x k ≡ part_notes y j
  pub division : ticks_per_quarter x ≡ ticks_per_quarter y
  pub bars : bars x ≡ bars y

-- ---- right, for a part of a piece

-- the staff is well formed, and right
abbrev pub RightFor : Piece → ℕ → StaffArrays → Type 0
RightFor x k s = ProofRead (ticks_per_quarter x) (part_notes x k) (bars x) s

abbrev pub FormedFor : Piece → StaffArrays → Type 0
FormedFor x s = WellFormed (ticks_per_quarter x) (bars x) s

-- its bars are full; every note is found, no key is invented, no chord ends elsewhere
abbrev pub PlaysFor : Piece → ℕ → StaffArrays → Type 0
PlaysFor x k s = PlaysNotes (ticks_per_quarter x) (part_notes x k) (bars x) s

-- outputs with room for a staff of this size
pub record Room (size : StaffSize) (lent : EngravedLists) : Type 0 where
  pub counts : 4 * size.bars ≤ length lent.staff.counts
  pub heads : size.items ≤ length lent.staff.heads
  pub keys : 2 * size.items ≤ length lent.staff.keys
  pub leftovers : 4 * size.bars ≤ length lent.leftovers

-- ---- the demand

pub record Demand3 : Type 0 where
  -- Two parties that share only one part's raw notes, the division and the bars: nothing else decides the answer, or what is written.
  pub shared_read : (x y : Piece) (k j : ℕ) (s : StaffArrays) (work₀ work₁ area₀ area₁ : List ℕ) (answer other : Result Bool) → Shares x k y j
      → Passes (proof_read_refusals x k (length work₀)) → Reads x k s work₀ answer work₁
      → Passes (proof_read_refusals y j (length area₀)) → Reads y j s area₀ other area₁
      → answer ≡ other
  pub shared_written : (x y : Piece) (k j : ℕ) (lent left lent' left' : EngravedLists) (work₀ work₁ area₀ area₁ : List ℕ) (size other : StaffSize)
      → Shares x k y j → Engraves x k lent work₀ (given size) left work₁ → Engraves y j lent' area₀ (given other) left' area₁
      → (used size left.staff ≡ used other left'.staff) × (used_leftovers size left.leftovers ≡ used_leftovers other left'.leftovers)
  -- The proof-reader says yes exactly when the staff is well formed and right, for every piece, part, staff and work area that the numbers let pass ..
  pub exactly : (x : Piece) (k : ℕ) (s : StaffArrays) (work₀ work₁ : List ℕ) (answer : Result Bool)
      → Passes (proof_read_refusals x k (length work₀)) → Reads x k s work₀ answer work₁
      → (answer ≡ given true) ↔ RightFor x k s
  -- .. otherwise it says no,
  pub otherwise : (x : Piece) (k : ℕ) (s : StaffArrays) (work₀ work₁ : List ℕ) (answer : Result Bool)
      → Passes (proof_read_refusals x k (length work₀)) → Reads x k s work₀ answer work₁
      → (answer ≡ given false) ↔ (RightFor x k s → ⊥)
  -- and of a well formed staff it asks full bars and the points on the raw notes, no more.
  pub formed : (x : Piece) (k : ℕ) (s : StaffArrays) (work₀ work₁ : List ℕ) (answer : Result Bool)
      → Passes (proof_read_refusals x k (length work₀)) → Reads x k s work₀ answer work₁
      → FormedFor x s → (answer ≡ given true) ↔ PlaysFor x k s
  -- The engraver writes a staff for every part that the numbers let pass, where outputs and work area have room ..
  pub engraves : (x : Piece) (k : ℕ) (lent left : EngravedLists) (work₀ work₁ : List ℕ) (answer : Result StaffSize)
      → Passes (part_refusals x k) → work_needed x ≤ length work₀ → Room (part_size x k) lent → Engraves x k lent work₀ answer left work₁
      → answer ≡ given (part_size x k)
  -- .. and the proof-reader says yes to every staff that it writes, unused space left off, where the part is even.
  pub engraved : (x : Piece) (k : ℕ) (lent left : EngravedLists) (work₀ work₁ area₀ area₁ : List ℕ) (size : StaffSize) (answer : Result Bool)
      → Engraves x k lent work₀ (given size) left work₁
      → part_even x k ≡ true → work_needed x ≤ length area₀ → Reads x k (used size left.staff) area₀ answer area₁
      → answer ≡ given true
