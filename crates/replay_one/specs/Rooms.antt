-- The room of the arrays that are lent.
use Rattle.std.specs.Prelude.{◌≤◌, ℕ, List, ◌≡◌, length}
use Rattle.replay_text.specs.Calls.{most_room, said_room}
use Rattle.replay_text.specs.declared.Asked.{Asked}

-- arrays cut to the room asked, and no larger than a scratch array
pub record CutTo (q : Asked) (scratch : ℕ) (a b c d e work : List ℕ) : Type 0 where
  pub said_fits : said_room ≤ scratch
  pub a_fits : q.a ≤ scratch
  pub b_fits : q.b ≤ scratch
  pub c_fits : q.c ≤ scratch
  pub d_fits : q.d ≤ scratch
  pub e_fits : q.e ≤ scratch
  pub a_room : length a ≡ q.a
  pub b_room : length b ≡ q.b
  pub c_room : length c ≡ q.c
  pub d_room : length d ≡ q.d
  pub e_room : length e ≡ q.e
  pub work_room : length work ≡ q.work

-- arrays with all the room that can be asked
pub record Roomy (scratch a b c d e work : List ℕ) : Type 0 where
  pub scratch_room : most_room ≤ length scratch
  pub a_room : most_room ≤ length a
  pub b_room : most_room ≤ length b
  pub c_room : most_room ≤ length c
  pub d_room : most_room ≤ length d
  pub e_room : most_room ≤ length e
  pub work_room : most_room ≤ length work
