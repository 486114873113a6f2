-- Numbers 1 to 5: sizes that agree, the first bad event, the answer by number, and what an answer says.
use Prim.Native.Nat.{ℕ, zero, suc, ◌+◌, ◌-◌, ◌≤◌, ◌<◌}
use mathlib.Core.Bool.{true, false, not, cond}
use mathlib.Core.List.{List, ◌++◌}
use mathlib.Core.Logic.{⊎_elim}
use mathlib.Core.Path.{◌≡◌, refl, ◌∙◌}
use native.Mathlib.Numerals.{add-one}
use native.Mathlib.Omega.{arith}
use borrow.Author.Tests.{eq-eqb, ne_eqb, le-leb, lt-ltb, le-ltb}
use lib.Dec.{ltb}
use lib.ListN.{length, get_or, drop_of_length-le}
use lib.Seq.{drop-cons}
use Rattle.rules.specs.Piece.{Piece, division, sizes_agree, well_formed}
use Rattle.admission.specs.Bad.{bad, FirstBad, AllSmall, AllFormed}
use Rattle.rules.specs.Refusals.{refused, Refusal, unless, first_number, event_refusals, piece_refusals, most_events, largest_delta}
use Rattle.laws.specs.Admitted.{Passes, Admitted}
use Rattle.laws.proofs.Refusals.{Agree, sizes_agree_lem, admitted, piece_numbers, number_passes, number_refused}
use Rattle.laws.proofs.Order.{by_bool}

-- ---- sizes
pub agrees : (x : Piece) → Agree x → sizes_agree x ≡ true
unfolding sizes_agree
agrees x a = rw (eq-eqb _ _ a.sizes, eq-eqb _ _ a.deltas, eq-eqb _ _ a.words, le-leb _ _ a.tracks, le-leb _ _ a.division)

pub disagrees : (x : Piece) → (Agree x → ⊥) → sizes_agree x ≡ false
disagrees x h = ⊎_elim (λ t. absurd (h (sizes_agree_lem x t))) (λ f. f) (by_bool (sizes_agree x))

-- ---- the first bad event from event i on
module _ (ds ws : List ℕ) (i : ℕ) (h : i < length ds) (k : i < length ws) where
  bad_cons : bad ds ws i ≡ cond (ltb largest_delta (get_or ds i 0)) 4 (cond (not (well_formed (get_or ws i 0))) 5 (bad ds ws (i + 1)))
  unfolding first_number event_refusals
  bad_cons = rw (drop-cons ds i 0 h, drop-cons ws i 0 k) (rw add-one)

  pub bad_delta : largest_delta < get_or ds i 0 → bad ds ws i ≡ 4
  bad_delta l = bad_cons ∙ rw (lt-ltb largest_delta (get_or ds i 0) l)

  pub bad_word : get_or ds i 0 ≤ largest_delta → well_formed (get_or ws i 0) ≡ false → bad ds ws i ≡ 5
  bad_word l w = bad_cons ∙ rw (le-ltb largest_delta (get_or ds i 0) l, w)

  pub bad_later : get_or ds i 0 ≤ largest_delta → well_formed (get_or ws i 0) ≡ true → bad ds ws i ≡ bad ds ws (i + 1)
  bad_later l w = bad_cons ∙ rw (le-ltb largest_delta (get_or ds i 0) l, w)

-- past a block of good events
module _ (ds ws : List ℕ) (from to : ℕ) (same : length ws ≡ length ds) (l : to ≤ length ds) (small : AllSmall ds from to) (formed : AllFormed ws from to) where
  after : (n i : ℕ) → from ≤ i → i + n ≡ to → bad ds ws i ≡ bad ds ws to
  after zero i f e = let here : i ≡ to = omega arith in rw here
  after (suc n) i f e =
      bad_later ds ws i (omega arith) (omega arith) (small.each i f (omega arith)) (formed.each i f (omega arith))
      ∙ after n (i + 1) (omega arith) (omega arith)

  pub none_bad : from ≤ to → FirstBad ds ws from to 0
  none_bad h = record { none = λ z. after (to - from) from (omega arith) (omega arith); some = λ z. absurd (z refl) }

pub bad_none : (ds ws : List ℕ) (i : ℕ) → length ds ≤ i → bad ds ws i ≡ 0
unfolding first_number event_refusals
bad_none ds ws i h = rw (drop_of_length-le ds h)

-- ---- the answer, number by number
module _ (x : Piece) where
  pub number_one : sizes_agree x ≡ false → first_number (piece_refusals x) ≡ 1
  unfolding first_number piece_refusals
  number_one s = rw s

  module _ (s : sizes_agree x ≡ true) where
    pub number_two : division x ≡ 0 → first_number (piece_refusals x) ≡ 2
    unfolding first_number piece_refusals
    number_two d = rw (s, eq-eqb (division x) 0 d)

    module _ (d : division x ≡ 0 → ⊥) where
      pub number_three : most_events < length x.deltas → first_number (piece_refusals x) ≡ 3
      unfolding first_number piece_refusals
      number_three l = rw (s, ne_eqb (division x) 0 d, lt-ltb most_events (length x.deltas) l)

      pub number_event : length x.deltas ≤ most_events → first_number (piece_refusals x) ≡ bad x.deltas x.words 0
      unfolding first_number piece_refusals
      number_event l = rw (s, ne_eqb (division x) 0 d, le-ltb most_events (length x.deltas) l)

-- ---- what an answer says

-- an answer of 0
pub passes : (x : Piece) → first_number (piece_refusals x) ≡ 0 → Passes (piece_refusals x)
passes x h = number_passes (piece_refusals x) (piece_numbers x) h

pub admits : (x : Piece) → first_number (piece_refusals x) ≡ 0 → Admitted x
admits x h = admitted x (passes x h)

-- any other answer: whatever else the call may refuse, this is its number
pub refuses : {A : Type 0} (x : Piece) (ss : List Refusal) (a : A) (k : ℕ) → first_number (piece_refusals x) ≡ k → 0 < k
    → unless (piece_refusals x ++ ss) a ≡ refused k
refuses x ss a k h l = number_refused (piece_refusals x) ss a k h l
