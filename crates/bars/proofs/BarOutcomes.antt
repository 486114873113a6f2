-- The bars call: how many bars there are, its outcome with this room, and what it leaves in the outputs.
use Prim.Native.Nat.{ℕ, ◌≤◌, ◌<◌}
use mathlib.Core.List.{List}
use mathlib.Core.Path.{◌≡◌, sym, ap, ◌∙◌}
use borrow.Author.Tests.{lt-ltb, le-ltb}
use lib.ListN.{length}
use Rattle.rules.specs.Piece.{Piece, first_track}
use Rattle.rules.specs.Bars.{bars, starts, marks}
use Rattle.rules.specs.Refusals.{Result, refused, given, unless, note_refusals, as_it_is}
use Rattle.rules.specs.Calls.{BarLists, BarsCalled, bars_call}
use Rattle.laws.specs.Admitted.{Passes}
use Rattle.laws.proofs.Refusals.{passes_append}
use Rattle.bar_walk.specs.Walk.{BarsAre}
use Rattle.laws.proofs.BarLaws.{marks_length, starts_length}

-- a call that is refused leaves both outputs
pub bars_refused : {r : Result BarLists} {starts₀ marks₀ : List ℕ} (n : ℕ) → r ≡ refused n
    → BarsCalled as_it_is r starts₀ marks₀ (refused n) starts₀ marks₀
bars_refused n e = record { answered = rw e; starts = rw e; marks = rw e }

-- the room left is all that there is to refuse
module _ (x : Piece) (passed : Passes (note_refusals x)) (n : ℕ) (count : n ≡ length (bars x)) (starts₀ marks₀ : List ℕ) where
  -- what a refusal by 8 leaves
  abbrev Short : Type 0
  Short = BarsCalled as_it_is (bars_call x (length starts₀) (length marks₀)) starts₀ marks₀ (refused 8) starts₀ marks₀

  pub starts_short : length starts₀ < n → Short
  unfolding unless
  starts_short h =
      bars_refused 8 (passes_append (note_refusals x) _ _ passed ∙ rw (starts_length (bars x), ← count, lt-ltb (length starts₀) n h))

  module _ (h : n ≤ length starts₀) where
    pub marks_short : length marks₀ < n → Short
    unfolding unless
    marks_short k =
        bars_refused 8
        (passes_append (note_refusals x) _ _ passed
        ∙ rw (starts_length (bars x), marks_length (first_track x) (bars x), ← count, le-ltb (length starts₀) n h, lt-ltb (length marks₀) n k))

    module _ (k : n ≤ length marks₀) where
      pub enough : bars_call x (length starts₀) (length marks₀) ≡ given (record { starts = starts x; marks = marks x })
      unfolding unless
      enough =
          passes_append (note_refusals x) _ _ passed
          ∙ rw (starts_length (bars x), marks_length (first_track x) (bars x), ← count, le-ltb (length starts₀) n h, le-ltb (length marks₀) n k)

      pub bars_given : {m : ℕ} {starts₁ marks₁ : List ℕ} → BarsAre (first_track x) (bars x) starts₀ marks₀ m starts₁ marks₁
          → BarsCalled as_it_is (bars_call x (length starts₀) (length marks₀)) starts₀ marks₀ (given n) starts₁ marks₁
      bars_given are =
          rw enough (record { answered = ap given (count ∙ sym (starts_length (bars x))); starts = are.starts_are; marks = are.marks_are })
