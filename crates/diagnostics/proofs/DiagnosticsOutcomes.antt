-- The diagnostics call: its outcome with this room, and what it leaves in the outputs.
use Prim.Native.Nat.{ℕ, ◌≤◌, ◌<◌}
use mathlib.Core.List.{List, [], ◌∷◌, map}
use mathlib.Core.Path.{◌≡◌, sym, ap, ◌∙◌}
use native.Mathlib.Omega.{arith}
use borrow.Author.Tests.{lt-ltb, le-ltb}
use lib.ListN.{length, length-map}
use Rattle.rules.specs.Lists.{written, cleared}
use Rattle.rules.specs.Piece.{Piece}
use Rattle.rules.specs.RawNotes.{most_notes}
use Rattle.rules.specs.Diagnostics.{Diagnostic, place_of, detail_of, diagnostics}
use Rattle.rules.specs.Refusals.{Result, refused, given, unless, first_number, piece_refusals, work_for, short_output, as_it_is}
use Rattle.rules.specs.Calls.{diagnostics_call, DiagnosticsCalled}
use Rattle.basics.specs.declared.Refusal.{Refusal}
use Rattle.basics.specs.Refusals.{number}
use Rattle.laws.proofs.Places.{no_elements}
use Rattle.opening.proofs.Opening.{refuses, piece_passes, work_short, work_enough}
use Rattle.diagnostics.specs.Answers.{DiagnosticsWritten}

-- a call that is refused leaves both outputs
leaves : {r : Result (List Diagnostic)} {places details : List ℕ} (n : ℕ) → r ≡ refused n
    → DiagnosticsWritten r places details (refused n) places details
leaves n e = record { answered = rw e; places = rw e; details = rw e }

module _ (x : Piece) (places details : List ℕ) (work : ℕ) where
  -- the call answers a, and leaves p and d in the outputs
  abbrev Answers : Result ℕ → List ℕ → List ℕ → Type 0
  Answers a p d = DiagnosticsWritten (diagnostics_call x (length places) (length details) work) places details a p d

  -- 1 to 5
  pub piece_refused : (r : Refusal) → number r ≡ first_number (piece_refusals x) → Answers (refused (number r)) places details
  piece_refused r e = leaves (number r) (refuses (piece_refusals x) r e _ _)

  module _ (e : 0 ≡ first_number (piece_refusals x)) {m : ℕ} (most : m ≡ most_notes x) where
    pub work_refused : work < work_for m → Answers (refused 8) places details
    work_refused h = leaves 8 (work_short x (piece_refusals x) (piece_passes x e) m work most _ _ h)

    module _ (enough : work_for m ≤ work) {count : ℕ} (all : count ≡ length (diagnostics x)) where
      -- none of 1 to 5 applies, and the work area has room
      outputs_left : diagnostics_call x (length places) (length details) work
          ≡ unless
          (short_output (length places) (map place_of (diagnostics x)) ∷ short_output (length details) (map detail_of (diagnostics x)) ∷ [])
          (diagnostics x)
      outputs_left = work_enough x (piece_refusals x) (piece_passes x e) m work most _ _ enough

      pub places_refused : length places < count → Answers (refused 8) places details
      unfolding unless
      places_refused h = leaves 8 (outputs_left ∙ rw (length-map, ← all, lt-ltb (length places) count h))

      pub details_refused : count ≤ length places → length details < count → Answers (refused 8) places details
      unfolding unless
      details_refused h k =
          leaves 8
          (outputs_left
          ∙ rw (length-map, length-map, ← all, le-ltb (length places) count h, lt-ltb (length details) count k))

      pub all_written : {places₁ details₁ : List ℕ} → count ≤ length places → count ≤ length details
          → places₁ ≡ written (map place_of (diagnostics x)) places → details₁ ≡ written (map detail_of (diagnostics x)) details
          → Answers (given count) places₁ details₁
      unfolding unless
      all_written h k p d = rw outcome (record { answered = ap given all; places = p; details = d })
        where
          outcome : diagnostics_call x (length places) (length details) work ≡ given (diagnostics x)
          outcome =
              outputs_left
              ∙ rw (length-map, length-map, ← all, le-ltb (length places) count h, le-ltb (length details) count k)

      -- there are none, and nothing is written
      pub none_written : count ≡ 0 → Answers (given 0) places details
      none_written none =
          let none_found : diagnostics x ≡ [] = no_elements (diagnostics x) (sym all ∙ none) in
          let called = all_written {places₁ = places} {details₁ = details} (omega arith) (omega arith) (rw none_found) (rw none_found) in
          rw none at called

-- the work area is zeroed last
pub work_zeroed : {r : Result (List Diagnostic)} {places details work places₁ details₁ work₁ : List ℕ} {a : Result ℕ}
    → DiagnosticsWritten r places details a places₁ details₁ → work₁ ≡ cleared work
    → DiagnosticsCalled as_it_is r places details work a places₁ details₁ work₁
work_zeroed w z = record { answered = w.answered; places = w.places; details = w.details; work = z }
