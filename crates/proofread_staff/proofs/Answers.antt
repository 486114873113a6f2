-- The part's notes as they stand in the work area, and the answer by its tests.
use Prim.Native.Nat.{ℕ, ◌*◌, ◌/◌, ◌%◌, ◌≤◌, ◌<◌, max}
use mathlib.Core.Bool.{Bool, true, false, ◌&&◌}
use mathlib.Core.List.{List}
use mathlib.Core.Path.{◌≡◌, sym, ◌∙◌}
use native.Mathlib.Omega.{arith}
use borrow.Author.Tests.{eq-eqb, ne_eqb, lt-ltb, le-ltb}
use lib.ListN.{length}
use Rattle.rules.specs.Lists.{sum}
use Rattle.rules.specs.RawNotes.{RawNote}
use Rattle.rules.specs.Bars.{Bar}
use Rattle.rules.specs.Grid.{off_count, grid}
use Rattle.rules.specs.Values.{smallest}
use Rattle.rules.specs.Items.{StaffArrays, read_staff}
use Rattle.rules.specs.ProofReaderTests.{right?, shaped?, even?}
use Rattle.rules.specs.Refusals.{refused, given, unless}
use Rattle.laws.proofs.Places.{up_to_length}
use Rattle.laws.proofs.Reflection.{says_flag, says_eq, says_and4}
use Rattle.proofread_notes.specs.Columns.{raw_at}
use Rattle.proofread_voices.specs.Voices.{Fits}
use Rattle.proofread_staff.specs.Staffs.{raws_at, heads_mean?, Shapes, Measures, answer_on}
use Rattle.proofread_staff.specs.declared.Measured.{Measured}

-- ---- the grid

module _ (p n m offs : ℕ) (w : List ℕ) (o : offs ≡ off_count p (raws_at n m w)) where
  pub grid_fine : m < offs * 10 → {r : ℕ} → r ≡ max 1 (p / 8) → r ≡ grid p (raws_at n m w)
  unfolding grid
  grid_fine h e = rw (up_to_length (raw_at n w) m, ← o, lt-ltb m (offs * 10) h) e

  pub grid_plain : offs * 10 ≤ m → {r : ℕ} → r ≡ max 1 (p / 4) → r ≡ grid p (raws_at n m w)
  unfolding grid
  grid_plain h e = rw (up_to_length (raw_at n w) m, ← o, le-ltb m (offs * 10) h) e

-- ---- the answer

pub fits_of : {bars : ℕ} {bs : List Bar} {counts heads keys : List ℕ} {r : Bool} → Shapes bars counts heads keys r → bars ≡ length bs → r ≡ true
    → Fits bs counts heads keys
fits_of {bars} {bs} {counts} {heads} {keys} s e y =
    let t = (says_and4 (says_eq (length counts) (4 * bars)) (says_eq (length heads) (sum counts)) (says_eq (length keys) (2 * sum counts))
    (says_flag (heads_mean? heads))).0 (sym s.is ∙ y) in
    record { few = s.few y; small = s.small y; bars = omega (arith, t.0); heads_fit = t.1; keys_fit = t.2 }

module _ (p g : ℕ) (ns : List RawNote) (s : StaffArrays) {u limit : ℕ} {bs : List Bar} {x : Measured} (eu : u ≡ smallest p) (mx : Measures limit bs u x) where
  pub uneven_grid : (g % u ≡ 0 → ⊥) → refused 9 ≡ answer_on p g ns bs s
  unfolding unless even?
  uneven_grid h = rw (← eu, ne_eqb (g % u) 0 h)

  module _ (h : g % u ≡ 0) where
    pub uneven_bars : x.even ≡ false → refused 9 ≡ answer_on p g ns bs s
    unfolding unless even?
    uneven_bars f = rw (← eu, eq-eqb (g % u) 0 h, ← mx.even, f)

    module _ (t : x.even ≡ true) {r : Bool} (shapes : Shapes x.bars s.counts s.heads s.keys r) where
      even : answer_on p g ns bs s ≡ given (r && right? p g ns bs (read_staff s))
      unfolding unless even? shaped?
      even = rw (← eu, eq-eqb (g % u) 0 h, ← mx.even, t, shapes.is, mx.bars)

      pub malformed : r ≡ false → given false ≡ answer_on p g ns bs s
      malformed f = sym (even ∙ rw f)

      pub answered : r ≡ true → {b : Bool} → b ≡ right? p g ns bs (read_staff s) → given b ≡ answer_on p g ns bs s
      answered y q = sym (even ∙ rw (y, ← q))
