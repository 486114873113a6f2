-- What the proof-reader's steps over a whole part promise, and its answer.
use Rattle.std.specs.Prelude.{ℕ, ◌+◌, ◌*◌, ◌%◌, ◌≤◌, Bool, true, false, ◌&&◌, List, [], ◌∷◌, map, ◌≡◌, eqb, ltb, length}
use Rattle.rules.specs.Lists.{every, sum}
use Rattle.rules.specs.RawNotes.{RawNote}
use Rattle.rules.specs.Bars.{Bar, last_bar_end}
use Rattle.rules.specs.Items.{StaffArrays, head_limit}
use Rattle.rules.specs.ProofReaderTests.{verdict_on, even?}
use Rattle.rules.specs.Refusals.{Result, refused, given, unless, uneven_part}
use Rattle.laws.specs.Sort.{count}
use Rattle.proofread_notes.specs.Columns.{raw_at}
use Rattle.proofread_staff.specs.declared.Measured.{Measured}
use Rattle.proofread_staff.specs.declared.Reading.{Reading}
use Rattle.proofread_staff.specs.declared.Reading.TheVariants.{Yes, No, Uneven}

-- the m raw notes of the work area
abbrev pub raws_at : ℕ → ℕ → List ℕ → List RawNote
raws_at n m w = map (raw_at n w) (count 0 m)

-- ---- bars

abbrev pub with_bar : Measured → ℕ → ℕ → ℕ → Measured
with_bar x len end u = record { bars = x.bars + 1; end = end; even = x.even && eqb (len % u) 0 }

-- the bars are measured, at most `limit` of them
pub record Measures (limit : ℕ) (bs : List Bar) (u : ℕ) (r : Measured) : Type 0 where
  pub bars : r.bars ≡ length bs
  pub few : r.bars ≤ limit
  pub end : r.end ≡ last_bar_end bs
  pub even : r.even ≡ every (λ (b : Bar). eqb (b.len % u) 0) bs

-- ---- arrays

abbrev pub heads_mean? : List ℕ → Bool
heads_mean? hs = every (λ h. ltb h head_limit) hs

-- the test of malformed arrays for so many bars; those that pass are not too long to be counted
pub record Shapes (bars : ℕ) (counts heads keys : List ℕ) (r : Bool) : Type 0 where
  pub is : r ≡ (eqb (length counts) (4 * bars) && eqb (length heads) (sum counts) && eqb (length keys) (2 * sum counts) && heads_mean? heads)
  pub few : r ≡ true → length counts ≤ 40000
  pub small : r ≡ true → length heads ≤ 40000 * 4294967295

-- ---- the answer

-- document 01's answer: yes, no, or number 9
abbrev pub answer_of : Reading → Result Bool
answer_of Yes = given true
answer_of No = given false
answer_of Uneven = refused 9

-- Number 9 is asked before the staff is looked at; ns are the notes and g is their grid.
abbrev pub answer_on : ℕ → ℕ → List RawNote → List Bar → StaffArrays → Result Bool
answer_on p g ns bs s = unless (uneven_part (even? p g bs) ∷ []) (verdict_on p g ns bs s)
