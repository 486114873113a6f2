-- What each call on a file leaves is the outcome of its number.
use Prim.Native.Nat.{ℕ}
use mathlib.Core.List.{List}
use mathlib.Core.Path.{◌≡◌}
use borrow.Author.Tests.{ne_eqb}
use lib.ListN.{length}
use Rattle.rules.specs.Refusals.{Result, as_it_is}
use Rattle.rules.specs.Calls.{PieceSize, read_size_call, read_call, ReadCalled}
use Rattle.replay_answers.specs.Numbers.{saying}
use Rattle.replay_file_calls.specs.Outcomes.{Left, left, piece_numbers, outcome}

module _ (code : ℕ) (bytes : List ℕ) (l : Left) where
  pub size_left : {said : List ℕ} (answer : Result PieceSize) → code ≡ 9 → answer ≡ read_size_call bytes
      → said ≡ saying piece_numbers l.said answer
      → left said l.sizes l.deltas l.words ≡ outcome code bytes l
  unfolding outcome
  size_left answer e o h = rw (e, h, o)

  pub read_left : {said sizes deltas words : List ℕ} (answer : Result PieceSize) → code ≡ 10
      → ReadCalled as_it_is (read_call bytes (length l.sizes) (length l.deltas) (length l.words))
      l.sizes l.deltas l.words answer sizes deltas words
      → said ≡ saying piece_numbers l.said answer
      → left said sizes deltas words ≡ outcome code bytes l
  unfolding outcome
  read_left answer e o h = rw (e, h, o.answered, o.sizes, o.deltas, o.words)

  -- no number of a call
  pub none_left : (code ≡ 9 → ⊥) → (code ≡ 10 → ⊥) → l ≡ outcome code bytes l
  unfolding outcome
  none_left n9 n10 = rw (ne_eqb code 9 n9, ne_eqb code 10 n10)
