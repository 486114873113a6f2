-- What the answers mean: a number, or the values that document 01 asks for.
use Rattle.std.specs.Prelude.{ℕ, ◌≡◌}
use Rattle.std.specs.Prelude as std
use Rattle.rules.specs.Changes as rules
use Rattle.rules.specs.Piece.{Piece}
use Rattle.rules.specs.Refusals.{Result, as_it_is}
use Rattle.rules.specs.Calls.{head_call}
use Rattle.basics.specs.declared.Refusal.{Refusal}
use Rattle.basics.specs.Refusals.{told_by}
use Rattle.changes.specs.Heads.{told_key}
use Rattle.changes.specs.declared.Head.{Head}
use Rattle.changes.specs.declared.PartHead.{PartHead}

-- the head that a struct stands for; an absent key is an absent value, so that nothing need be said of its fields
abbrev pub head_of : Head → rules.Head
head_of h =
    record {
      tempo = h.tempo;
      meter = record { upper = h.upper; lower = h.lower };
      key = told_key h.key;
    }

abbrev pub head_answer : std.Result Head Refusal → Result rules.Head
head_answer r = told_by head_of r

pub record HeadCalled (x : Piece) (r : std.Result Head Refusal) : Type 0 where
  pub answered : head_answer r ≡ head_call x

abbrev pub count_answer : std.Result ℕ Refusal → Result ℕ
count_answer r = told_by as_it_is r

abbrev pub part_head_of : PartHead → rules.PartHead
part_head_of h = record { channel = h.channel; program = h.program }

abbrev pub part_head_answer : std.Result PartHead Refusal → Result rules.PartHead
part_head_answer r = told_by part_head_of r
