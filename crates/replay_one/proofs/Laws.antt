-- What each function does, step by step, is its definition.
use Prim.Native.Nat.{ℕ}
use mathlib.Core.List.{List}
use mathlib.Core.Path.{◌≡◌}
use mathlib.Core.Bool.{true, false}
use Rattle.std.specs.Prelude.{Option}
use Rattle.std.specs.Option.{is_some}
use Rattle.rules.specs.Lists.{cleared}
use Rattle.rules.specs.Piece.{Piece}
use Rattle.replayed.specs.Differences.{difference}
use Rattle.replay_text.specs.Calls.{asked_at}
use Rattle.replay_text.specs.Checks.{sound, checked_at}
use Rattle.replay_text.specs.declared.Asked.{Asked}
use Rattle.replay_text.specs.declared.Checked.{Checked}
use Rattle.replay_text.specs.declared.Cursor.{Cursor}
use Rattle.replay_calls.specs.Outcomes.{left}
use Rattle.replay_lent.specs.Lent.{leaves}
use Rattle.replay_one.specs.Comparing.{compared_at, uncompared, called_at}
use Rattle.replay_one.specs.declared.Compared.{Compared}

-- what a call left, list by list
pub compared_is : (text : List ℕ) (p : Cursor) (s a b c d e w : List ℕ) (rs ra rb rc rd re : Checked) (z nil : Option ℕ)
    → rs ≡ checked_at text s p
    → ra ≡ checked_at text a rs.next
    → rb ≡ checked_at text b ra.next
    → rc ≡ checked_at text c rb.next
    → rd ≡ checked_at text d rc.next
    → re ≡ checked_at text e rd.next
    → z ≡ difference 0 (cleared w) w
    → nil ≡ sound re.next z
    → record {
      said = rs.found;
      a = ra.found;
      b = rb.found;
      c = rc.found;
      d = rd.found;
      e = re.found;
      work = nil;
      next = re.next;
    } ≡ compared_at text p (left s a b c d e w)
unfolding compared_at
compared_is text p s a b c d e w rs ra rb rc rd re z nil es ea eb ec ed ee ez enil = rw (enil, ez, ee, ed, ec, eb, ea, es)

-- a call that is asked, made and compared, or not read
module _ (text : List ℕ) (x : Piece) (bytes : List ℕ) (p : Cursor) (q : Asked) (r : Compared) (e : q ≡ asked_at text p) where
  pub called_unread : is_some q.next.fault ≡ true → r ≡ uncompared q.next → r ≡ called_at text x bytes p
  unfolding called_at
  called_unread h er = rw (er, ← e, h)

  pub called_made : is_some q.next.fault ≡ false → r ≡ compared_at text q.next (leaves text x bytes q) → r ≡ called_at text x bytes p
  unfolding called_at
  called_made h er = rw (er, ← e, h)
