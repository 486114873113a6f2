-- What has no room: the number of one part, and of the parts one after another.
use Prim.Native.Nat.{ℕ, ◌+◌, ◌<◌, ◌≤◌}
use mathlib.Core.Bool.{Bool, true, false}
use mathlib.Core.List.{List, [], ◌∷◌, ◌++◌, map}
use mathlib.Core.Path.{◌≡◌, refl, sym, ap, ◌∙◌}
use native.Mathlib.Numerals.{add-one}
use native.Mathlib.Omega.{arith}
use borrow.Author.Tests.{lt-ltb, le-ltb, lt-leb}
use lib.ListN.{length, drop}
use lib.Seq.{drop-cons, drop-length}
use Rattle.rules.specs.Lists.{is_empty}
use Rattle.rules.specs.Piece.{Piece}
use Rattle.rules.specs.RawNotes.{parts}
use Rattle.rules.specs.Refusals.{refused, given, Refusal, refuse, unless, first_number, piece_refusals, note_refusals, part_refusals, short_work}
use Rattle.rules.specs.Calls.{StaffSize, part_track, part_size, staff_size_call}
use Rattle.laws.specs.Admitted.{Passes}
use Rattle.laws.proofs.Lists.{All-append, All-right}
use Rattle.laws.proofs.Refusals.{passes_append, number_first, number_passes, number_after}
use Rattle.pages.specs.Page.{many_items}

pub part_passes : (x : Piece) (k : ℕ) → Passes (note_refusals x) → k < length (parts x) → Passes (part_refusals x k)
part_passes x k h l = All-append _ (note_refusals x) _ h (lt-leb (length (parts x)) k l, tt)

-- one refusal by 8, or a value
eight_refused : {A : Type 0} (t : Bool) (a : A) (n : ℕ) → refused n ≡ unless (refuse 8 t ∷ []) a → (n ≡ 8) × (t ≡ true)
unfolding unless
eight_refused true a n h = (cc, refl)
eight_refused false a n h =
    let z : ◌≡◌ {A = ℕ} 0 1 = cc in
    absurd (omega arith)

eight_given : {A : Type 0} (t : Bool) (a b : A) → given b ≡ unless (refuse 8 t ∷ []) a → (b ≡ a) × (t ≡ false)
unfolding unless
eight_given false a b h = (cc, refl)
eight_given true a b h =
    let z : ◌≡◌ {A = ℕ} 0 1 = cc in
    absurd (omega arith)

module _ (x : Piece) (k work items : ℕ) (passes : Passes (note_refusals x)) (here : k < length (parts x)) where
  sized : staff_size_call x k work ≡ unless (short_work x work ∷ []) (part_size x k)
  sized = passes_append (part_refusals x k) _ (part_size x k) (part_passes x k passes here)

  pub refused_number : (n : ℕ) → refused n ≡ staff_size_call x k work
      → n ≡ first_number (short_work x work ∷ many_items items x (part_track x k) ∷ [])
  unfolding first_number
  refused_number n h =
      let (e, t) = eight_refused (short_work x work).applies (part_size x k) n (h ∙ sized) in
      rw t e

  module _ (s : StaffSize) (h : given s ≡ staff_size_call x k work) where
    pub many_number : items < s.items → 8 ≡ first_number (short_work x work ∷ many_items items x (part_track x k) ∷ [])
    unfolding first_number
    many_number l =
        let (e, t) = eight_given (short_work x work).applies (part_size x k) s (h ∙ sized) in
        let l₂ : items < (part_size x k).items = rw (ap (λ (z : StaffSize). z.items) e) at l in
        rw (t, lt-ltb items (part_size x k).items l₂)

    pub no_number : s.items ≤ items → 0 ≡ first_number (short_work x work ∷ many_items items x (part_track x k) ∷ [])
    unfolding first_number
    no_number l =
        let (e, t) = eight_given (short_work x work).applies (part_size x k) s (h ∙ sized) in
        let l₂ : (part_size x k).items ≤ items = rw (ap (λ (z : StaffSize). z.items) e) at l in
        rw (t, le-ltb items (part_size x k).items l₂)

-- ---- the parts one after another

not_empty : {A : Type 0} (xs : List A) → is_empty xs ≡ false → 0 < length xs
not_empty [] h =
    let z : ◌≡◌ {A = ℕ} 0 1 = cc in
    absurd (omega arith)
not_empty (x ∷ xs) h = omega arith

pub some_part : (x : Piece) → Passes (note_refusals x) → 0 < length (parts x)
some_part x h = not_empty (parts x) (All-right _ (piece_refusals x) _ h).0

module _ (x : Piece) (items work : ℕ) where
  -- what is left to ask from part k on
  abbrev pub asked_from : ℕ → List Refusal
  asked_from k = short_work x work ∷ map (many_items items x) (drop k (parts x))

  module _ (k : ℕ) (here : k < length (parts x)) where
    own : List Refusal
    own = short_work x work ∷ many_items items x (part_track x k) ∷ []

    asked_here : asked_from k ≡ own ++ map (many_items items x) (drop (k + 1) (parts x))
    unfolding own
    asked_here = rw (add-one, drop-cons (parts x) k [] here)

    pub asked_number : (n : ℕ) → n ≡ first_number (short_work x work ∷ many_items items x (part_track x k) ∷ []) → 0 < n → n ≡ first_number (asked_from k)
    unfolding own
    asked_number n e l = sym (ap first_number asked_here ∙ number_first own _ n (sym e) l)

    pub asked_passes : 0 ≡ first_number (short_work x work ∷ many_items items x (part_track x k) ∷ [])
        → Passes (short_work x work ∷ many_items items x (part_track x k) ∷ [])
    asked_passes e = number_passes _ (omega arith, (omega arith, tt)) (sym e)

    pub asked_next : 0 ≡ first_number (short_work x work ∷ many_items items x (part_track x k) ∷ []) → first_number (asked_from (k + 1)) ≡ first_number (asked_from k)
    unfolding own first_number
    asked_next e =
        let p = asked_passes e in
        let more : List Refusal = map (many_items items x) (drop (k + 1) (parts x)) in
        number_after (short_work x work ∷ []) more (p.0, tt) ∙ sym (ap first_number asked_here ∙ number_after own more p)

  pub asked_none : (k : ℕ) → k ≡ length (parts x) → (short_work x work).applies ≡ false → 0 ≡ first_number (asked_from k)
  unfolding first_number
  asked_none k e t = rw (e, drop-length (parts x), t)
