-- An answer told in another way: what a call that is told as it is leaves, it leaves told so too.
use Prim.Native.Nat.{ℕ}
use mathlib.Core.Bool.{Bool}
use mathlib.Core.List.{List}
use mathlib.Core.Path.{◌≡◌, ap, ◌∙◌}
use Rattle.rules.specs.Automation.{AutomationLists}
use Rattle.rules.specs.Calls.{PieceSize, ReadCalled, BarLists, BarsCalled, StaffSize, StaffSizeCalled, EngravedLists, EngraveCalled}
use Rattle.rules.specs.Calls.{AutomationCounts, AutomationCalled, DiagnosticsCalled, ProofReadCalled}
use Rattle.rules.specs.Diagnostics.{Diagnostic}
use Rattle.rules.specs.Piece.{Piece}
use Rattle.rules.specs.Refusals.{Result, as_it_is}

module _ {A : Type 0} {x : A} where
  -- a call that lends nothing
  pub told : {R : Type 0} (tell : R → A) {r answer : R} → answer ≡ r → x ≡ tell answer → x ≡ tell r
  told tell o e = e ∙ ap tell o

  pub piece_told : {told : Result PieceSize → A} {r : Result Piece} {sizes deltas words sizes₁ deltas₁ words₁ : List ℕ} {answer : Result PieceSize}
      → ReadCalled as_it_is r sizes deltas words answer sizes₁ deltas₁ words₁ → x ≡ told answer
      → ReadCalled told r sizes deltas words x sizes₁ deltas₁ words₁
  piece_told {told} o e = record { answered = e ∙ ap told o.answered; sizes = o.sizes; deltas = o.deltas; words = o.words }

  pub bars_told : {told : Result ℕ → A} {r : Result BarLists} {starts marks starts₁ marks₁ : List ℕ} {answer : Result ℕ}
      → BarsCalled as_it_is r starts marks answer starts₁ marks₁ → x ≡ told answer → BarsCalled told r starts marks x starts₁ marks₁
  bars_told {told} o e = record { answered = e ∙ ap told o.answered; starts = o.starts; marks = o.marks }

  pub size_told : {told : Result StaffSize → A} {r : Result StaffSize} {work work₁ : List ℕ} {answer : Result StaffSize}
      → StaffSizeCalled as_it_is r work answer work₁ → x ≡ told answer → StaffSizeCalled told r work x work₁
  size_told {told} o e = record { answered = e ∙ ap told o.answered; work = o.work }

  pub engrave_told : {told : Result StaffSize → A} {size : StaffSize} {r : Result EngravedLists}
      {counts heads keys leftovers work counts₁ heads₁ keys₁ leftovers₁ work₁ : List ℕ} {answer : Result StaffSize}
      → EngraveCalled as_it_is size r counts heads keys leftovers work answer counts₁ heads₁ keys₁ leftovers₁ work₁ → x ≡ told answer
      → EngraveCalled told size r counts heads keys leftovers work x counts₁ heads₁ keys₁ leftovers₁ work₁
  engrave_told {told} o e =
      record {
        answered = e ∙ ap told o.answered;
        counts = o.counts;
        heads = o.heads;
        keys = o.keys;
        leftovers = o.leftovers;
        work = o.work;
      }

  pub automation_told : {told : Result AutomationCounts → A} {r : Result AutomationLists} {ticks words ticks₁ words₁ : List ℕ}
      {answer : Result AutomationCounts}
      → AutomationCalled as_it_is r ticks words answer ticks₁ words₁ → x ≡ told answer → AutomationCalled told r ticks words x ticks₁ words₁
  automation_told {told} o e = record { answered = e ∙ ap told o.answered; ticks = o.ticks; words = o.words }

  pub diagnostics_told : {told : Result ℕ → A} {r : Result (List Diagnostic)} {places details work places₁ details₁ work₁ : List ℕ}
      {answer : Result ℕ}
      → DiagnosticsCalled as_it_is r places details work answer places₁ details₁ work₁ → x ≡ told answer
      → DiagnosticsCalled told r places details work x places₁ details₁ work₁
  diagnostics_told {told} o e =
      record { answered = e ∙ ap told o.answered; places = o.places; details = o.details; work = o.work }

  pub read_told : {told : Result Bool → A} {r : Result Bool} {work work₁ : List ℕ} {answer : Result Bool}
      → ProofReadCalled as_it_is r work answer work₁ → x ≡ told answer → ProofReadCalled told r work x work₁
  read_told {told} o e = record { answered = e ∙ ap told o.answered; work = o.work }
