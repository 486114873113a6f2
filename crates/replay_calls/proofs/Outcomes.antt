-- What each call leaves is the outcome of its number.
use Prim.Native.Nat.{ℕ}
use mathlib.Core.List.{List}
use mathlib.Core.Path.{◌≡◌}
use borrow.Author.Tests.{ne_eqb}
use lib.ListN.{length}
use Rattle.rules.specs.Piece.{Piece}
use Rattle.rules.specs.Calls.{head_call, part_count_call, part_head_call, bars_call, staff_size_call, engrave_call, automation_call, diagnostics_call, proof_read_call}
use Rattle.rules.specs.Calls.{part_size, BarsCalled, StaffSizeCalled, EngraveCalled, AutomationCalled, DiagnosticsCalled, ProofReadCalled}
use Rattle.replay_answers.specs.Numbers.{saying}
use Rattle.replay_file_calls.specs.Outcomes as files
use Rattle.replay_calls.specs.Outcomes.{Left, left, staff_lent, file_lent, outcome}
use Rattle.replay_calls.specs.Outcomes.{head_numbers, count_numbers, part_head_numbers, size_numbers, automation_numbers, read_numbers}

module _ (code part : ℕ) (x : Piece) (bytes : List ℕ) (l : Left) where
  pub head_left : {said : List ℕ} → code ≡ 1 → said ≡ saying head_numbers l.said (head_call x)
      → left said l.a l.b l.c l.d l.e l.work ≡ outcome code part x bytes l
  unfolding outcome
  head_left e h = rw (e, h)

  pub count_left : {said : List ℕ} → code ≡ 2 → said ≡ saying count_numbers l.said (part_count_call x)
      → left said l.a l.b l.c l.d l.e l.work ≡ outcome code part x bytes l
  unfolding outcome
  count_left e h = rw (e, h)

  pub part_head_left : {said : List ℕ} → code ≡ 3 → said ≡ saying part_head_numbers l.said (part_head_call x part)
      → left said l.a l.b l.c l.d l.e l.work ≡ outcome code part x bytes l
  unfolding outcome
  part_head_left e h = rw (e, h)

  pub bars_left : {said a b : List ℕ} → code ≡ 4
      → BarsCalled (saying count_numbers l.said) (bars_call x (length l.a) (length l.b)) l.a l.b said a b
      → left said a b l.c l.d l.e l.work ≡ outcome code part x bytes l
  unfolding outcome
  bars_left e o = rw (e, o.answered, o.starts, o.marks)

  pub size_left : {said work : List ℕ} → code ≡ 5
      → StaffSizeCalled (saying size_numbers l.said) (staff_size_call x part (length l.work)) l.work said work
      → left said l.a l.b l.c l.d l.e work ≡ outcome code part x bytes l
  unfolding outcome
  size_left e o = rw (e, o.answered, o.work)

  pub engrave_left : {said counts heads keys leftovers work : List ℕ} → code ≡ 6
      → EngraveCalled (saying size_numbers l.said) (part_size x part)
      (engrave_call x part (length l.c) (length l.d) (length l.a) (length l.e) (length l.work))
      l.c l.d l.a l.e l.work said counts heads keys leftovers work
      → left said keys l.b counts heads leftovers work ≡ outcome code part x bytes l
  unfolding outcome
  engrave_left e o = rw (e, o.answered, o.counts, o.heads, o.keys, o.leftovers, o.work)

  pub automation_left : {said ticks words : List ℕ} → code ≡ 7
      → AutomationCalled (saying automation_numbers l.said) (automation_call x part (length l.a) (length l.c)) l.a l.c said ticks words
      → left said ticks l.b words l.d l.e l.work ≡ outcome code part x bytes l
  unfolding outcome
  automation_left e o = rw (e, o.answered, o.ticks, o.words)

  pub diagnostics_left : {said places details work : List ℕ} → code ≡ 8
      → DiagnosticsCalled (saying count_numbers l.said) (diagnostics_call x (length l.a) (length l.b) (length l.work))
      l.a l.b l.work said places details work
      → left said places details l.c l.d l.e work ≡ outcome code part x bytes l
  unfolding outcome
  diagnostics_left e o = rw (e, o.answered, o.places, o.details, o.work)

  pub read_left : {said work : List ℕ} → code ≡ 11
      → ProofReadCalled (saying read_numbers l.said) (proof_read_call x part (staff_lent l) (length l.work)) l.work said work
      → left said l.a l.b l.c l.d l.e work ≡ outcome code part x bytes l
  unfolding outcome
  read_left e o = rw (e, o.answered, o.work)

  -- a call on a file, or no number of a call
  pub file_left : {said c d e : List ℕ} → (code ≡ 1 → ⊥) → (code ≡ 2 → ⊥) → (code ≡ 3 → ⊥) → (code ≡ 4 → ⊥) → (code ≡ 5 → ⊥) → (code ≡ 6 → ⊥) → (code ≡ 7 → ⊥)
      → (code ≡ 8 → ⊥) → (code ≡ 11 → ⊥) → files.left said c d e ≡ files.outcome code bytes (file_lent l)
      → left said l.a l.b c d e l.work ≡ outcome code part x bytes l
  unfolding outcome
  file_left n1 n2 n3 n4 n5 n6 n7 n8 n11 o =
      rw (
        ne_eqb code 1 n1,
        ne_eqb code 2 n2,
        ne_eqb code 3 n3,
        ne_eqb code 4 n4,
        ne_eqb code 5 n5,
        ne_eqb code 6 n6,
        ne_eqb code 7 n7,
        ne_eqb code 8 n8,
        ne_eqb code 11 n11,
        ← o,
      )
