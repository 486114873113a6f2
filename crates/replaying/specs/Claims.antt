-- What the count of disagreements comes to, stated for readers and proved in proofs/Claimed.antt.
use Rattle.std.specs.Prelude.{ℕ, zero, suc, true, List, Some, None, ◌≡◌, length}
use Rattle.rules.specs.Lists.{cleared}
use Rattle.rules.specs.Piece.{Piece}
use Rattle.replay_text.specs.Calls.{asked_at}
use Rattle.replay_text.specs.Checks.{wanted_at}
use Rattle.replay_text.specs.Numbers.{number_at, list_at, most_wide, ends}
use Rattle.replay_text.specs.declared.Cursor.{Cursor}
use Rattle.replay_calls.specs.Outcomes.{Left}
use Rattle.replay_lent.specs.Lent.{leaves}
use Rattle.replaying.specs.Running.{call_turn, call_start, piece_at, piece_start, piece_turn, piece_count, begin, pieces_at, replay_of}
use Rattle.replaying.specs.declared.Run.{Run}

-- the list at a cursor, with the other numbers behind it, is what an array holds
abbrev pub Holds : List ℕ → Cursor → List ℕ → Type 0
Holds text p l = wanted_at text (length l) p ≡ l

-- the cursor behind that list
abbrev pub behind : List ℕ → Cursor → List ℕ → Cursor
behind text p l = (list_at most_wide text (length l) p).next

-- What a call left is what the text has from a cursor on: the answer and five lists, one behind another; and the work area is zero.
pub record AsWritten (text : List ℕ) (p : Cursor) (l : Left) : Type 0 where
  pub said : Holds text p l.said
  pub a : Holds text (behind text p l.said) l.a
  pub b : Holds text (behind text (behind text p l.said) l.a) l.b
  pub c : Holds text (behind text (behind text (behind text p l.said) l.a) l.b) l.c
  pub d : Holds text (behind text (behind text (behind text (behind text p l.said) l.a) l.b) l.c) l.d
  pub e : Holds text (behind text (behind text (behind text (behind text (behind text p l.said) l.a) l.b) l.c) l.d) l.e
  pub work : cleared l.work ≡ l.work

-- the call that is asked at a cursor, of a piece or a file's bytes, leaves what stands behind its head
abbrev pub CallAgrees : List ℕ → Piece → List ℕ → Cursor → Type 0
CallAgrees text x bytes p = AsWritten text (asked_at text p).next (leaves text x bytes (asked_at text p))

-- of so many turns each begins at a state of which P holds
abbrev pub Each : {A : Type 0} → ℕ → (A → A) → (A → Type 0) → A → Type 0
Each zero turn P s = Unit {0}
Each (suc n) turn P s = P s × Each n turn P (turn s)

-- the piece at a state: its number is the next, and each of its calls agrees
pub record PieceAgrees (text : List ℕ) (s : Run) : Type 0 where
  pub number : (number_at true text s.next).value ≡ s.pieces
  pub calls : Each (number_at true text (piece_start text s).next).value
      (call_turn text (piece_at text s.pieces s.next).given (piece_at text s.pieces s.next).bytes)
      (λ (t : Run). CallAgrees text (piece_at text s.pieces s.next).given (piece_at text s.pieces s.next).bytes t.next)
      (call_start text (piece_start text s))

-- the whole list: it was read without a fault, nothing stands behind it, and each of its pieces agrees
pub record ListAgrees (text : List ℕ) : Type 0 where
  pub read : (pieces_at text).next.fault ≡ None
  pub end : (number_at true text (pieces_at text).next).next.fault ≡ Some ends
  pub pieces : Each (piece_count text).value (piece_turn text) (PieceAgrees text) (begin text)

-- no disagreement is counted exactly where the list agrees
abbrev pub NoneExactly : Type 0
NoneExactly = (text : List ℕ) → ((replay_of text).wrong ≡ 0 → ListAgrees text) × (ListAgrees text → (replay_of text).wrong ≡ 0)
