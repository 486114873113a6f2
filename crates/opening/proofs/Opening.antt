-- What opens a piece or a part: how one number follows another, and what a number says of the call.
use Prim.Native.Nat.{ℕ, ◌≤◌, ◌<◌}
use mathlib.Core.List.{List, [], ◌∷◌, ◌++◌, append-nil}
use mathlib.Core.Path.{◌≡◌, sym, ◌∙◌}
use native.Mathlib.Omega.{arith}
use borrow.Author.Tests.{lt-ltb, le-ltb, le-leb, lt-leb, leb-false}
use lib.Dec.{leb}
use lib.ListN.{length, length-take}
use Rattle.rules.specs.Lists.{is_empty, keep}
use Rattle.rules.specs.Calls.{part_track}
use Rattle.rules.specs.Piece.{Piece, Event, tracks}
use Rattle.rules.specs.RawNotes.{most_parts, has_notes, parts, most_notes}
use Rattle.rules.specs.Refusals.{refused, Refusal, refuse, first_number, unless, most_events, piece_refusals, note_refusals, part_refusals, work_for, short_work}
use Rattle.std.specs.Prelude.{Ok, Err}
use Rattle.basics.specs.declared.Refusal as declared
use Rattle.basics.specs.declared.Refusal.TheVariants.{NoNotes, NoSuchPart}
use Rattle.basics.specs.Refusals.{number}
use Rattle.admission.proofs.Refused.{positive}
use Rattle.laws.specs.Admitted.{Passes, Admitted}
use Rattle.laws.proofs.Lists.{All-append, All-left, All-right, All-get}
use Rattle.laws.proofs.Places.{none_empty, some_left}
use Rattle.laws.proofs.Refusals.{admitted, admitted_part, passes_append, Numbered, number_first, number_after, number_refused, number_passes, piece_numbers, note_numbers}
use Rattle.track_events.specs.Track.{Track, events_of, stretch}
use Rattle.tracks.specs.Spans.{IsSpan}
use Rattle.tracks.specs.declared.Span.{Span}
use Rattle.tracks.proofs.Cuts.{span_track}
use Rattle.tracks.proofs.Ranges.{ons, parts_most, most_few}
use Rattle.opening.specs.Opening.{NotesOpened, PartOpened}

-- ---- any list of refusals

module _ {A : Type 0} (rs : List Refusal) (r : declared.Refusal) (e : number r ≡ first_number rs) where
  -- a refusal is the call's, whatever else it may refuse
  pub refuses : (ss : List Refusal) (a : A) → unless (rs ++ ss) a ≡ refused (number r)
  refuses ss a = number_refused rs ss a (number r) (sym e) (positive r)

  pub refuses_last : (a : A) → unless rs a ≡ refused (number r)
  refuses_last a = rw append-nil at (refuses [] a)

-- 8 for the work area, after refusals of which none applies
module _ {A : Type 0} (x : Piece) (rs : List Refusal) (passed : Passes rs) (n work : ℕ) (most : n ≡ most_notes x) (ss : List Refusal) (a : A) where
  pub work_short : work < work_for n → unless (rs ++ (short_work x work ∷ ss)) a ≡ refused 8
  unfolding unless
  work_short h = passes_append rs _ a passed ∙ rw (← most, lt-ltb work (work_for n) h)

  pub work_enough : work_for n ≤ work → unless (rs ++ (short_work x work ∷ ss)) a ≡ unless ss a
  unfolding unless
  work_enough h = passes_append rs _ a passed ∙ rw (← most, le-ltb work (work_for n) h)

pub few_notes : (x : Piece) {n : ℕ} → Admitted x → n ≡ most_notes x → n ≤ most_events
few_notes x known most = omega (arith, most, most_few x known)

-- ---- a track cut out: what `cut` asks of deltas and words

module _ {ds ws : List ℕ} {es : List Event} {r : Span} (s : IsSpan ds ws es r) where
  pub cut_deltas : (r.from ≤ r.to) × (r.to ≤ length ds)
  cut_deltas = (s.order, s.deltas)

  pub cut_words : (r.from ≤ r.to) × (r.to ≤ length ws)
  cut_words = (s.order, s.words)

-- ---- none of a piece's numbers applies

part_numbers : (x : Piece) (k : ℕ) → Numbered (part_refusals x k)
part_numbers x k = All-append _ (note_refusals x) _ (note_numbers x) (omega arith, tt)

module _ (x : Piece) {n : ℕ} (opened : NotesOpened x (Ok n)) where
  pub notes_pass : Passes (note_refusals x)
  notes_pass = number_passes (note_refusals x) (note_numbers x) (sym opened.number)

  pub notes_admitted : Admitted x
  notes_admitted = admitted x (All-left _ (piece_refusals x) _ notes_pass)

  pub few_parts : n ≤ most_parts
  few_parts = omega (arith, opened.parts, length-take most_parts (keep has_notes (tracks x)))

-- ---- none of a part's

module _ (x : Piece) (k : ℕ) {s : Span} (opened : PartOpened x k (Ok s)) where
  pub part_passes : Passes (part_refusals x k)
  part_passes = number_passes (part_refusals x k) (part_numbers x k) (sym opened.number)

  pub part_admitted : Admitted x
  part_admitted = admitted_part x k part_passes

  is_part : k < length (parts x)
  is_part = leb-false (length (parts x)) k (All-right _ (note_refusals x) _ part_passes).0

  pub own_track : Track (stretch s.from s.to x.deltas) (stretch s.from s.to x.words)
  own_track = span_track x part_admitted opened.own

  -- the part's track has at most N notes
  pub few_ons : {n : ℕ} → n ≡ most_notes x
      → ons (events_of (stretch s.from s.to x.deltas) (stretch s.from s.to x.words)) ≤ n
  few_ons most = rw (opened.own.events, most) (All-get (λ es. ons es ≤ most_notes x) (parts x) k [] (parts_most x) is_part)

-- ---- one number after another

module _ (x : Piece) where
  pub refused_notes : (r : declared.Refusal) → number r ≡ first_number (piece_refusals x) → NotesOpened x (Err r)
  refused_notes r e = record { number = sym (number_first (piece_refusals x) _ _ (sym e) (positive r)); parts = tt }

  module _ (e : 0 ≡ first_number (piece_refusals x)) where
    pub piece_passes : Passes (piece_refusals x)
    piece_passes = number_passes (piece_refusals x) (piece_numbers x) (sym e)

    pub piece_admitted : Admitted x
    piece_admitted = admitted x piece_passes

    sixth : first_number (note_refusals x) ≡ first_number (refuse 6 (is_empty (parts x)) ∷ [])
    sixth = number_after (piece_refusals x) _ piece_passes

    module _ {m : ℕ} (count : m ≡ length (parts x)) where
      pub no_notes : m ≡ 0 → NotesOpened x (Err NoNotes)
      unfolding first_number
      no_notes h = record { number = sym (sixth ∙ rw (none_empty (parts x) (sym count ∙ h))); parts = tt }

      pub with_notes : (m ≡ 0 → ⊥) → NotesOpened x (Ok m)
      unfolding first_number
      with_notes h = record { number = sym (sixth ∙ rw (some_left (parts x) (λ f. h (count ∙ f)))); parts = count }

module _ (x : Piece) (k : ℕ) where
  pub refused_part : (r : declared.Refusal) → number r ≡ first_number (note_refusals x) → PartOpened x k (Err r)
  refused_part r e = record { number = sym (number_first (note_refusals x) _ _ (sym e) (positive r)); own = tt }

  module _ {n : ℕ} (opened : NotesOpened x (Ok n)) where
    seventh : first_number (part_refusals x k) ≡ first_number (refuse 7 (leb (length (parts x)) k) ∷ [])
    seventh = number_after (note_refusals x) _ (notes_pass x opened)

    pub no_part : n ≤ k → PartOpened x k (Err NoSuchPart)
    unfolding first_number
    no_part h = record { number = sym (seventh ∙ rw (le-leb (length (parts x)) k (omega (arith, opened.parts)))); own = tt }

    pub there : k < n → k < length (parts x)
    there h = omega (arith, opened.parts)

    pub with_part : (s : Span) → k < n → IsSpan x.deltas x.words (part_track x k) s → PartOpened x k (Ok s)
    unfolding first_number
    with_part s h own = record { number = sym (seventh ∙ rw (lt-leb (length (parts x)) k (there h))); own = own }
