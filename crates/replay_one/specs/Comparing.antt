-- One call of the text: what is lent to it, and what it left against the text's lists.
use Rattle.std.specs.Prelude.{ℕ, ◌+◌, cond, List, None}
use Rattle.std.specs.Option.{is_some}
use Rattle.rules.specs.Lists.{cleared}
use Rattle.rules.specs.Piece.{Piece}
use Rattle.replayed.specs.Differences.{difference, bit}
use Rattle.replay_text.specs.Calls.{asked_at}
use Rattle.replay_text.specs.Checks.{sound, checked_at}
use Rattle.replay_text.specs.declared.Cursor.{Cursor}
use Rattle.replay_calls.specs.Outcomes.{Left}
use Rattle.replay_lent.specs.Lent.{leaves}
use Rattle.replay_one.specs.declared.Compared.{Compared}

-- what a call left, against the answer and the five lists from the cursor on, and the work area, which is zero
unfoldable pub compared_at : List ℕ → Cursor → Left → Compared
compared_at text p l =
    let said = checked_at text l.said p in
    let a = checked_at text l.a said.next in
    let b = checked_at text l.b a.next in
    let c = checked_at text l.c b.next in
    let d = checked_at text l.d c.next in
    let e = checked_at text l.e d.next in
    record {
      said = said.found;
      a = a.found;
      b = b.found;
      c = c.found;
      d = d.found;
      e = e.found;
      work = sound e.next (difference 0 (cleared l.work) l.work);
      next = e.next;
    }

-- nothing is compared where the call could not be read
abbrev pub uncompared : Cursor → Compared
uncompared p = record { said = None; a = None; b = None; c = None; d = None; e = None; work = None; next = p }

-- the next call of the text, of a piece or a file's bytes, made and compared
unfoldable pub called_at : List ℕ → Piece → List ℕ → Cursor → Compared
called_at text x bytes p =
    let q = asked_at text p in
    cond (is_some q.next.fault) (uncompared q.next) (compared_at text q.next (leaves text x bytes q))

-- how many of the seven differ
unfoldable pub wrong_of : Compared → ℕ
wrong_of r = bit r.said + bit r.a + bit r.b + bit r.c + bit r.d + bit r.e + bit r.work
