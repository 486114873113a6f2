-- The head of a call in the text: its number, its part and the room of six arrays.
use Rattle.std.specs.Prelude.{ℕ, ◌≤◌, true, List}
use Rattle.replay_text.specs.Numbers.{bounded_at, most_narrow, large, long}
use Rattle.replay_text.specs.declared.Cursor.{Cursor}
use Rattle.replay_text.specs.declared.Numbered.{Numbered}
use Rattle.replay_text.specs.declared.Asked.{Asked}

-- how many numbers an answer has room for
abbrev pub said_room : ℕ
said_room = 8

-- the most that an array which is lent holds
abbrev pub most_room : ℕ
most_room = 45056

unfoldable pub asked_at : List ℕ → Cursor → Asked
asked_at text p =
    let count : ℕ → Numbered → Numbered = λ most n. bounded_at true most long text n.next in
    let code = bounded_at true 99 long text p in
    let part = bounded_at true most_narrow large text code.next in
    let a = count most_room part in
    let b = count most_room a in
    let c = count most_room b in
    let d = count most_room c in
    let e = count most_room d in
    let work = count most_room e in
    record {
      code = code.value;
      part = part.value;
      a = a.value;
      b = b.value;
      c = c.value;
      d = d.value;
      e = e.value;
      work = work.value;
      next = work.next;
    }

-- no array is larger than that
pub record Within (q : Asked) : Type 0 where
  pub a : q.a ≤ most_room
  pub b : q.b ≤ most_room
  pub c : q.c ≤ most_room
  pub d : q.d ≤ most_room
  pub e : q.e ≤ most_room
  pub work : q.work ≤ most_room
