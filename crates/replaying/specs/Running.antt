-- A run over the whole list: its pieces one after another, each with its calls. A fault ends it: after one every turn changes nothing.
use Rattle.std.specs.Prelude.{ℕ, zero, suc, ◌+◌, ◌≤◌, true, cond, List, Option, Some, None, ◌≡◌, eqb, ltb, length, take, replicate}
use Rattle.std.specs.Option.{is_some}
use Rattle.rules.specs.Piece.{Piece, piece}
use Rattle.replay_text.specs.Numbers.{Numbers, number_at, bounded_at, list_at, most_narrow, most_byte, long}
use Rattle.replay_text.specs.declared.Cursor.{Cursor}
use Rattle.replay_text.specs.declared.Fault.{Fault}
use Rattle.replay_text.specs.declared.Fault.TheVariants.{Ends, Word, Large, Long}
use Rattle.replay_text.specs.declared.Numbered.{Numbered}
use Rattle.replay_one.specs.Comparing.{called_at, wrong_of}
use Rattle.replay_text.specs.declared.Listed.{Listed}
use Rattle.replaying.specs.declared.Given.{Given}
use Rattle.replaying.specs.declared.Run.{Run}

-- so many turns
unfoldable pub iterate : {A : Type 0} → ℕ → (A → A) → A → A
iterate zero turn s = s
iterate (suc n) turn s = iterate n turn (turn s)

-- a count that stops where no list reaches
abbrev pub more : ℕ → ℕ → ℕ
more n k = cond (ltb n 1000000000000) (n + k) n

-- the numbers of sizes, events and bytes that a piece or a file has room for
abbrev pub most_sizes : ℕ
most_sizes = 4096

abbrev pub most_events : ℕ
most_events = 500008

abbrev pub most_bytes : ℕ
most_bytes = 8192

-- a list of events; where zeros is not 0, so many zeros stand for it
unfoldable pub events_at : List ℕ → ℕ → Cursor → Numbers
events_at text zeros p =
    record {
      all = cond (eqb zeros 0) (list_at most_narrow text most_events p).all (replicate zeros 0);
      next = (list_at most_narrow text most_events p).next;
    }

-- a piece of the text: 1 where its number is another than is due, its arrays, a file's bytes, and the cursor behind them
pub record PieceRead : Type 0 where
  pub other : ℕ
  pub given : Piece
  pub bytes : List ℕ
  pub next : Cursor

-- 1 where a number was read and is another than is due
unfoldable pub other_than : ℕ → Numbered → ℕ
other_than due n = cond (is_some n.next.fault) 0 (cond (eqb n.value due) 0 1)

unfoldable pub piece_at : List ℕ → ℕ → Cursor → PieceRead
piece_at text due p =
    let number = number_at true text p in
    let zeros = bounded_at true most_events long text number.next in
    let sizes = list_at most_narrow text most_sizes zeros.next in
    let deltas = events_at text zeros.value sizes.next in
    let words = events_at text zeros.value deltas.next in
    let bytes = list_at most_byte text most_bytes words.next in
    record {
      other = other_than due number;
      given = piece sizes.all deltas.all words.all;
      bytes = bytes.all;
      next = bytes.next;
    }

-- the fronts of the arrays after a list, or a piece, was read to them
pub record Front (n : Numbers) (r : Listed) (l : List ℕ) : Type 0 where
  pub fits : r.count ≤ length l
  pub next : r.next ≡ n.next
  pub front : take r.count l ≡ n.all

pub record Gave (x : PieceRead) (r : Given) (sizes deltas words bytes : List ℕ) : Type 0 where
  pub other : r.other ≡ x.other
  pub next : r.next ≡ x.next
  pub fits : (r.sizes ≤ length sizes) × (r.deltas ≤ length deltas) × (r.words ≤ length words) × (r.bytes ≤ length bytes)
  pub given : piece (take r.sizes sizes) (take r.deltas deltas) (take r.words words) ≡ x.given
  pub file : take r.bytes bytes ≡ x.bytes

-- one call more
unfoldable pub call_turn : List ℕ → Piece → List ℕ → Run → Run
call_turn text x bytes s =
    let r = called_at text x bytes s.next in
    cond (is_some s.next.fault)
    s
    (record { next = r.next; pieces = s.pieces; calls = more s.calls 1; wrong = more s.wrong (wrong_of r) })

-- the calls of a piece: behind their count, and as many as that says
abbrev pub call_start : List ℕ → Run → Run
call_start text s = record { next = (number_at true text s.next).next; pieces = s.pieces; calls = s.calls; wrong = s.wrong }

unfoldable pub calls_at : List ℕ → Piece → List ℕ → Run → Run
calls_at text x bytes s =
    iterate (number_at true text s.next).value (call_turn text x bytes) (call_start text s)

-- one piece more: behind its arrays, and then its calls
abbrev pub piece_start : List ℕ → Run → Run
piece_start text s =
    let x = piece_at text s.pieces s.next in
    record { next = x.next; pieces = more s.pieces 1; calls = s.calls; wrong = more s.wrong x.other }

unfoldable pub piece_turn : List ℕ → Run → Run
piece_turn text s =
    let x = piece_at text s.pieces s.next in
    cond (is_some s.next.fault) s (calls_at text x.given x.bytes (piece_start text s))

-- a run's begin: nothing counted, behind the count of pieces
abbrev pub piece_count : List ℕ → Numbered
piece_count text = number_at true text (record { at = 0; fault = None })

abbrev pub begin : List ℕ → Run
begin text = record { next = (piece_count text).next; pieces = 0; calls = 0; wrong = 0 }

-- all pieces, as many as the text says
unfoldable pub pieces_at : List ℕ → Run
pieces_at text = iterate (piece_count text).value (piece_turn text) (begin text)

-- one disagreement more
unfoldable pub one_more : Run → Run
one_more s = record { next = s.next; pieces = s.pieces; calls = s.calls; wrong = more s.wrong 1 }

-- at the end: one more for a fault, and for a number behind the last piece
abbrev pub after_last : Option Fault → Run → Run
after_last None s = one_more s
after_last (Some Ends) s = s
after_last (Some Word) s = one_more s
after_last (Some Large) s = one_more s
after_last (Some Long) s = one_more s

unfoldable pub finished : List ℕ → Run → Run
finished text s = cond (is_some s.next.fault) (one_more s) (after_last (number_at true text s.next).next.fault s)

-- the whole list
unfoldable pub replay_of : List ℕ → Run
replay_of text = finished text (pieces_at text)
