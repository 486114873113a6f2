-- What is lent to a call, and what the call leaves of it.
use Rattle.std.specs.Prelude.{ℕ, cond, List, [], ◌≡◌, eqb, length}
use Rattle.rules.specs.Lists.{written}
use Rattle.rules.specs.Piece.{Piece}
use Rattle.replayed.specs.Differences.{others}
use Rattle.replay_text.specs.Calls.{said_room}
use Rattle.replay_text.specs.Numbers.{list_at, most_wide, most_narrow}
use Rattle.replay_text.specs.declared.Asked.{Asked}
use Rattle.replay_text.specs.declared.Cursor.{Cursor}
use Rattle.replay_calls.specs.Outcomes.{Left, left, outcome}

-- the call whose lists are given to it: proof read
abbrev pub proof_read : ℕ
proof_read = 11

-- the first four lists of the text, behind the answer, each in its room
pub record Lists : Type 0 where
  pub a : List ℕ
  pub b : List ℕ
  pub c : List ℕ
  pub d : List ℕ

unfoldable pub lists_at : List ℕ → Cursor → (said a b c d : ℕ) → Lists
lists_at text p said a b c d =
    let ks = list_at most_wide text said p in
    let ka = list_at most_wide text a ks.next in
    let kb = list_at most_wide text b ka.next in
    let kc = list_at most_narrow text c kb.next in
    let kd = list_at most_narrow text d kc.next in
    record { a = ka.all; b = kb.all; c = kc.all; d = kd.all }

-- the arrays after those lists were read to their fronts
pub record Loaded (l : Lists) (a₀ b₀ c₀ d₀ a₁ b₁ c₁ d₁ : List ℕ) : Type 0 where
  pub a : a₁ ≡ written l.a a₀
  pub b : b₁ ≡ written l.b b₀
  pub c : c₁ ≡ written l.c c₀
  pub d : d₁ ≡ written l.d d₀

-- the lists that are given to a call: the text's for proof read, else none
abbrev pub no_lists : Lists
no_lists = record { a = []; b = []; c = []; d = [] }

unfoldable pub given_to : List ℕ → Asked → Lists
given_to text q = cond (eqb q.code proof_read) (lists_at text q.next said_room q.a q.b q.c q.d) no_lists

-- what is lent to a call: arrays of the room asked, with those lists at their fronts, and full of other numbers else
unfoldable pub lent : List ℕ → Asked → Left
lent text q =
    let l = given_to text q in
    left (others 0 said_room) (written l.a (others 0 q.a)) (written l.b (others 0 q.b))
    (written l.c (others 0 q.c)) (written l.d (others 0 q.d)) (others 0 q.e) (others 0 q.work)

-- the call that is asked, of a piece or a file's bytes, and what it leaves
abbrev pub leaves : List ℕ → Piece → List ℕ → Asked → Left
leaves text x bytes q = outcome q.code q.part x bytes (lent text q)

-- arrays cut to the room asked, those that lists are given in
pub record Cut (q : Asked) (said a b c d : List ℕ) : Type 0 where
  pub said_room_lem : length said ≡ said_room
  pub a_room : length a ≡ q.a
  pub b_room : length b ≡ q.b
  pub c_room : length c ≡ q.c
  pub d_room : length d ≡ q.d
