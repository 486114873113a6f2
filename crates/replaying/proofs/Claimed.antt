-- The claim of specs/Claims.antt: check by check, call by call, piece by piece.
use Prim.Native.Nat.{ℕ, zero, suc, ◌+◌}
use mathlib.Core.Bool.{true}
use Rattle.std.specs.Prelude.{Option, Some, None}
use Rattle.std.specs.Option.{is_some}
use mathlib.Core.List.{List}
use mathlib.Core.Logic.{⊎_elim}
use mathlib.Core.Path.{◌≡◌, refl, ap, sym, ◌∙◌}
use native.Mathlib.Omega.{arith}
use borrow.Author.Tests.{eq-eqb, ne_eqb, lt-ltb, le-ltb}
use lib.ListN.{length}
use Rattle.rules.specs.Lists.{cleared}
use Rattle.rules.specs.Piece.{Piece}
use Rattle.laws.proofs.Order.{by_eq, by_lt}
use Rattle.replayed.proofs.Claimed.{nothing_is_equal, equal_is_nothing}
use Rattle.replayed.specs.Differences.{difference, bit}
use Rattle.replay_text.proofs.Faults.{by_fault, fault_kept, number_sound, bounded_sound, list_sound}
use Rattle.replay_text.specs.Calls.{asked_at}
use Rattle.replay_text.specs.Checks.{wanted_at, checked_at}
use Rattle.replay_text.specs.Numbers.{number_at, most_wide, most_narrow, most_byte, ends, long}
use Rattle.replay_text.specs.declared.Fault.{Fault}
use Rattle.replay_text.specs.declared.Fault.TheVariants.{Ends, Word, Large, Long}
use Rattle.replay_text.specs.declared.Cursor.{Cursor}
use Rattle.replay_text.specs.declared.Numbered.{Numbered}
use Rattle.replay_calls.specs.Outcomes.{Left}
use Rattle.replay_one.specs.Comparing.{compared_at, called_at, wrong_of}
use Rattle.replay_lent.specs.Lent.{leaves}
use Rattle.replaying.specs.Claims.{behind, AsWritten, CallAgrees, Each, PieceAgrees, NoneExactly}
use Rattle.replaying.specs.Running.{iterate, more, events_at, most_sizes, most_events, most_bytes, other_than, piece_at, call_turn, call_start, calls_at}
use Rattle.replaying.specs.Running.{piece_start, piece_turn, piece_count, begin, pieces_at, one_more, after_last, finished, replay_of}
use Rattle.replaying.specs.declared.Run.{Run}

-- ---- counts

-- a count is 0 just where nothing was added to 0
more_zero : (n k : ℕ) → more n k ≡ 0 → (n ≡ 0) × (k ≡ 0)
more_zero n k h =
    ⊎_elim
    (λ e. let s : n + k ≡ 0 = rw (lt-ltb n 1000000000000 e) at h in (omega arith, omega arith))
    (λ e. let s : n ≡ 0 = rw (le-ltb n 1000000000000 e) at h in absurd (omega arith))
    (by_lt n 1000000000000)

bit_zero : (d : Option ℕ) → bit d ≡ 0 → d ≡ None
bit_zero (Some i) h = absurd (omega arith)
bit_zero None h = refl

-- ---- one list

module _ (xs ys : List ℕ) where
  none_equal : bit (difference 0 xs ys) ≡ 0 → xs ≡ ys
  none_equal h = nothing_is_equal xs ys (bit_zero _ h)

  equal_none : xs ≡ ys → bit (difference 0 xs ys) ≡ 0
  equal_none e = rw (e, equal_is_nothing ys)

-- ---- one call

-- what is compared where no fault stands behind it: each list as it is
module _ (text : List ℕ) (p : Cursor) (l : Left) where
  at_a : Cursor
  at_a = behind text p l.said

  at_b : Cursor
  at_b = behind text at_a l.a

  at_c : Cursor
  at_c = behind text at_b l.b

  at_d : Cursor
  at_d = behind text at_c l.c

  at_e : Cursor
  at_e = behind text at_d l.d

  differs : Cursor → List ℕ → ℕ
  differs q x = bit (difference 0 (wanted_at text (length x) q) x)

  module _ (h : (compared_at text p l).next.fault ≡ None) where
    at_end : (behind text at_e l.e).fault ≡ None
    unfolding compared_at checked_at at_a at_b at_c at_d at_e
    at_end = h

    in_e : at_e.fault ≡ None
    in_e = list_sound text most_wide (length l.e) at_e at_end

    in_d : at_d.fault ≡ None
    unfolding at_e
    in_d = list_sound text most_wide (length l.d) at_d in_e

    in_c : at_c.fault ≡ None
    unfolding at_d
    in_c = list_sound text most_wide (length l.c) at_c in_d

    in_b : at_b.fault ≡ None
    unfolding at_c
    in_b = list_sound text most_wide (length l.b) at_b in_c

    in_a : at_a.fault ≡ None
    unfolding at_b
    in_a = list_sound text most_wide (length l.a) at_a in_b

    wrong_is : wrong_of (compared_at text p l)
        ≡ differs p l.said + differs at_a l.a + differs at_b l.b + differs at_c l.c + differs at_d l.d
        + differs at_e l.e + bit (difference 0 (cleared l.work) l.work)
    unfolding wrong_of compared_at checked_at differs at_a at_b at_c at_d at_e
    wrong_is =
        rw (
          ap is_some in_a,
          ap is_some in_b,
          ap is_some in_c,
          ap is_some in_d,
          ap is_some in_e,
          ap is_some at_end,
        )

    pub none_written : wrong_of (compared_at text p l) ≡ 0 → AsWritten text p l
    unfolding differs at_a at_b at_c at_d at_e
    none_written e =
        let sum = wrong_is in
        record {
          said = none_equal _ _ (omega arith);
          a = none_equal _ _ (omega arith);
          b = none_equal _ _ (omega arith);
          c = none_equal _ _ (omega arith);
          d = none_equal _ _ (omega arith);
          e = none_equal _ _ (omega arith);
          work = none_equal _ _ (omega arith);
        }

    pub written_none : AsWritten text p l → wrong_of (compared_at text p l) ≡ 0
    unfolding differs at_a at_b at_c at_d at_e
    written_none w =
        omega (
          arith,
          wrong_is,
          equal_none _ _ w.said,
          equal_none _ _ w.a,
          equal_none _ _ w.b,
          equal_none _ _ w.c,
          equal_none _ _ w.d,
          equal_none _ _ w.e,
          equal_none _ _ w.work,
        )

-- a call that was asked and compared, without a fault behind it
module _ (text : List ℕ) (x : Piece) (bytes : List ℕ) (p : Cursor) (h : (called_at text x bytes p).next.fault ≡ None) where
  asked_sound : (asked_at text p).next.fault ≡ None
  unfolding called_at
  asked_sound = fault_kept (asked_at text p).next.fault (λ e. rw e at h)

  called_is : called_at text x bytes p ≡ compared_at text (asked_at text p).next (leaves text x bytes (asked_at text p))
  unfolding called_at
  called_is = rw (ap is_some asked_sound)

  pub none_agrees : wrong_of (called_at text x bytes p) ≡ 0 → CallAgrees text x bytes p
  none_agrees e = none_written text _ _ (rw called_is at h) (rw called_is at e)

  pub agrees_none : CallAgrees text x bytes p → wrong_of (called_at text x bytes p) ≡ 0
  agrees_none w = rw called_is (written_none text _ _ (rw called_is at h) w)

-- ---- loops

-- a turn keeps a fault, and counts no disagreement just where P holds
pub record Fair (turn : Run → Run) (P : Run → Type 0) : Type 0 where
  pub keeps : (s : Run) → (turn s).next.fault ≡ None → s.next.fault ≡ None
  pub none_holds : (s : Run) → (turn s).next.fault ≡ None → (turn s).wrong ≡ 0 → (s.wrong ≡ 0) × P s
  pub holds_none : (s : Run) → (turn s).next.fault ≡ None → s.wrong ≡ 0 → P s → (turn s).wrong ≡ 0

module _ {turn : Run → Run} {P : Run → Type 0} (fair : Fair turn P) where
  pub start_sound : (n : ℕ) (s : Run) → (iterate n turn s).next.fault ≡ None → s.next.fault ≡ None
  unfolding iterate
  start_sound zero s h = h
  start_sound (suc n) s h = fair.keeps s (start_sound n (turn s) h)

  pub none_each : (n : ℕ) (s : Run) → (iterate n turn s).next.fault ≡ None → (iterate n turn s).wrong ≡ 0 → (s.wrong ≡ 0) × Each n turn P s
  unfolding iterate
  none_each zero s h e = (e, tt)
  none_each (suc n) s h e =
      let rest = none_each n (turn s) h e in
      let first = fair.none_holds s (start_sound n (turn s) h) rest.0 in
      (first.0, (first.1, rest.1))

  pub each_none : (n : ℕ) (s : Run) → (iterate n turn s).next.fault ≡ None → s.wrong ≡ 0 → Each n turn P s → (iterate n turn s).wrong ≡ 0
  unfolding iterate
  each_none zero s h e w = e
  each_none (suc n) s h e w = each_none n (turn s) h (fair.holds_none s (start_sound n (turn s) h) e w.0) w.1

-- ---- the calls of a piece

module _ (text : List ℕ) (x : Piece) (bytes : List ℕ) where
  call_keeps : (s : Run) → (call_turn text x bytes s).next.fault ≡ None → s.next.fault ≡ None
  unfolding call_turn
  call_keeps s h = fault_kept s.next.fault (λ e. rw e at h)

  module _ (s : Run) (h : (call_turn text x bytes s).next.fault ≡ None) where
    turn_is : call_turn text x bytes s ≡ record {
      next = (called_at text x bytes s.next).next;
      pieces = s.pieces;
      calls = more s.calls 1;
      wrong = more s.wrong (wrong_of (called_at text x bytes s.next));
    }
    unfolding call_turn
    turn_is = rw (ap is_some (call_keeps s h))

    behind_sound : (called_at text x bytes s.next).next.fault ≡ None
    behind_sound = rw turn_is at h

    call_none : (call_turn text x bytes s).wrong ≡ 0 → (s.wrong ≡ 0) × CallAgrees text x bytes s.next
    call_none e =
        let both = more_zero s.wrong (wrong_of (called_at text x bytes s.next)) (rw turn_is at e) in
        (both.0, none_agrees text x bytes s.next behind_sound both.1)

    call_agrees : s.wrong ≡ 0 → CallAgrees text x bytes s.next → (call_turn text x bytes s).wrong ≡ 0
    call_agrees e w = rw (turn_is, e, agrees_none text x bytes s.next behind_sound w)

  calls_fair : Fair (call_turn text x bytes) (λ (t : Run). CallAgrees text x bytes t.next)
  calls_fair = record { keeps = call_keeps; none_holds = call_none; holds_none = call_agrees }

-- ---- the pieces

module _ (due : ℕ) (n : Numbered) (h : n.next.fault ≡ None) where
  none_due : other_than due n ≡ 0 → n.value ≡ due
  unfolding other_than
  none_due e =
      ⊎_elim (λ t. t)
      (λ t. let z : ◌≡◌ {A = ℕ} 1 0 = rw (ap is_some h, ne_eqb n.value due t) at e in absurd (omega arith))
      (by_eq n.value due)

  due_none : n.value ≡ due → other_than due n ≡ 0
  unfolding other_than
  due_none e = rw (ap is_some h, eq-eqb n.value due e)

-- behind a piece without a fault its number has none
number_read : (text : List ℕ) (due : ℕ) (p : Cursor) → (piece_at text due p).next.fault ≡ None → (number_at true text p).next.fault ≡ None
unfolding piece_at events_at
number_read text due p h =
    let words = list_sound text most_byte most_bytes _ h in
    bounded_sound text true most_events long _
    (list_sound text most_narrow most_sizes _ (list_sound text most_narrow most_events _ (list_sound text most_narrow most_events _ words)))

module _ (text : List ℕ) where
  piece_keeps : (s : Run) → (piece_turn text s).next.fault ≡ None → s.next.fault ≡ None
  unfolding piece_turn
  piece_keeps s h = fault_kept s.next.fault (λ e. rw e at h)

  module _ (s : Run) (h : (piece_turn text s).next.fault ≡ None) where
    given : Piece
    given = (piece_at text s.pieces s.next).given

    file : List ℕ
    file = (piece_at text s.pieces s.next).bytes

    count : ℕ
    count = (number_at true text (piece_start text s).next).value

    piece_is : piece_turn text s ≡ iterate count (call_turn text given file) (call_start text (piece_start text s))
    unfolding piece_turn calls_at given file count
    piece_is = rw (ap is_some (piece_keeps s h))

    calls_sound : (iterate count (call_turn text given file) (call_start text (piece_start text s))).next.fault ≡ None
    calls_sound = rw piece_is at h

    number_fine : (number_at true text s.next).next.fault ≡ None
    number_fine =
        number_read text s.pieces s.next
        (number_sound text true (piece_start text s).next (start_sound (calls_fair text given file) count (call_start text (piece_start text s)) calls_sound))

    other_is : (piece_at text s.pieces s.next).other ≡ other_than s.pieces (number_at true text s.next)
    unfolding piece_at
    other_is = refl

    piece_none : (piece_turn text s).wrong ≡ 0 → (s.wrong ≡ 0) × PieceAgrees text s
    unfolding given file count
    piece_none e =
        let calls = none_each (calls_fair text given file) count (call_start text (piece_start text s)) calls_sound (rw piece_is at e) in
        let both = more_zero s.wrong (piece_at text s.pieces s.next).other calls.0 in
        (both.0, record { number = none_due _ _ number_fine (sym other_is ∙ both.1); calls = calls.1 })

    piece_agrees : s.wrong ≡ 0 → PieceAgrees text s → (piece_turn text s).wrong ≡ 0
    unfolding given file count
    piece_agrees e w =
        let none : more s.wrong (piece_at text s.pieces s.next).other ≡ 0 =
        rw (e, other_is, due_none s.pieces (number_at true text s.next) number_fine w.number) in
        rw piece_is (each_none (calls_fair text given file) count (call_start text (piece_start text s)) calls_sound none w.calls)

  pieces_fair : Fair (piece_turn text) (PieceAgrees text)
  pieces_fair = record { keeps = piece_keeps; none_holds = piece_none; holds_none = piece_agrees }

-- ---- the whole list

one_more_lem : (s : Run) → (one_more s).wrong ≡ 0 → ⊥
unfolding one_more
one_more_lem s h = let both = more_zero s.wrong 1 h in omega arith

-- nothing stands behind the last piece just where the text ends there
after_last_none : (o : Option Fault) (s : Run) → (after_last o s).wrong ≡ 0 → (o ≡ Some ends) × (s.wrong ≡ 0)
after_last_none None s h = absurd (one_more_lem s h)
after_last_none (Some Ends) s h = (refl, h)
after_last_none (Some Word) s h = absurd (one_more_lem s h)
after_last_none (Some Large) s h = absurd (one_more_lem s h)
after_last_none (Some Long) s h = absurd (one_more_lem s h)

module _ (text : List ℕ) where
  finished_none : (s : Run) → (finished text s).wrong ≡ 0
      → (s.next.fault ≡ None) × ((number_at true text s.next).next.fault ≡ Some ends) × (s.wrong ≡ 0)
  unfolding finished
  finished_none s h =
      by_fault s.next.fault
      (λ e. let both = after_last_none (number_at true text s.next).next.fault s (rw (ap is_some e) at h) in (e, both.0, both.1))
      (λ why e. absurd (one_more_lem s (rw (ap is_some e) at h)))

  none_finished : (s : Run) → s.next.fault ≡ None → (number_at true text s.next).next.fault ≡ Some ends → finished text s ≡ s
  unfolding finished
  none_finished s h e = rw (ap is_some h, e)

pub none_exactly : NoneExactly
unfolding replay_of pieces_at
none_exactly text = (
  λ h. let end = finished_none text (pieces_at text) h in
      record {
        read = end.0;
        end = end.1;
        pieces = (none_each (pieces_fair text) (piece_count text).value (begin text) end.0 end.2).1;
      },
  λ w. rw (none_finished text (pieces_at text) w.read w.end)
      (each_none (pieces_fair text) (piece_count text).value (begin text) w.read refl w.pieces),
)
