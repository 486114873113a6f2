-- What each call by its number leaves: its answer as numbers, its outputs in the arrays that are lent to it, and a work area that is zero.
use Rattle.std.specs.Prelude.{ℕ, Bool, cond, List, [], ◌∷◌, map, eqb, length}
use Rattle.rules.specs.Lists.{flag, written, cleared}
use Rattle.rules.specs.Refusals.{Result, answers, writes}
use Rattle.rules.specs.Piece.{Piece}
use Rattle.rules.specs.Changes.{Head, PartHead}
use Rattle.rules.specs.Items.{StaffArrays}
use Rattle.rules.specs.Automation.{AutomationLists}
use Rattle.rules.specs.Diagnostics.{Diagnostic, place_of, detail_of}
use Rattle.rules.specs.Calls.{head_call, part_count_call, part_head_call, bars_call, staff_size_call, engrave_call, automation_call, diagnostics_call, proof_read_call}
use Rattle.rules.specs.Calls.{BarLists, StaffSize, EngravedLists, AutomationCounts, part_size, counts_of}
use Rattle.bar_marks.specs.Marks.{key_fifths, key_minor}
use Rattle.replay_answers.specs.Numbers.{saying}
use Rattle.replay_file_calls.specs.Outcomes as files

-- the numbers of the answer and the arrays, before a call or after it
pub record Left : Type 0 where
  pub said : List ℕ
  pub a : List ℕ
  pub b : List ℕ
  pub c : List ℕ
  pub d : List ℕ
  pub e : List ℕ
  pub work : List ℕ

abbrev pub left : (said a b c d e work : List ℕ) → Left
left said a b c d e work = record { said = said; a = a; b = b; c = c; d = d; e = e; work = work }

-- ---- the values of an answer, behind its 0

-- fifths + 8 and minor, both 0 where there is no key
abbrev pub head_numbers : Head → List ℕ
head_numbers h = h.tempo ∷ h.meter.upper ∷ h.meter.lower ∷ key_fifths h.key ∷ flag (key_minor h.key) ∷ []

abbrev pub count_numbers : ℕ → List ℕ
count_numbers n = n ∷ []

abbrev pub part_head_numbers : PartHead → List ℕ
part_head_numbers h = h.channel ∷ h.program ∷ []

abbrev pub size_numbers : StaffSize → List ℕ
size_numbers s = s.bars ∷ s.items ∷ []

abbrev pub automation_numbers : AutomationCounts → List ℕ
automation_numbers n = n.bends ∷ n.controllers ∷ n.programs ∷ n.pressures ∷ []

abbrev pub read_numbers : Bool → List ℕ
read_numbers right = flag right ∷ []

-- ---- what is left, by a call's outcome and what was lent

-- an answer alone
abbrev pub answer_left : {A : Type 0} → (A → List ℕ) → Result A → Left → Left
answer_left values r l =
    record { said = saying values l.said r; a = l.a; b = l.b; c = l.c; d = l.d; e = l.e; work = l.work }

-- an answer that took a work area
abbrev pub work_left : {A : Type 0} → (A → List ℕ) → Result A → Left → Left
work_left values r l =
    record { said = saying values l.said r; a = l.a; b = l.b; c = l.c; d = l.d; e = l.e; work = cleared l.work }

-- a: starts, b: marks
abbrev pub bars_left : Result BarLists → Left → Left
bars_left r l =
    record {
      said = saying count_numbers l.said (answers (λ (o : BarLists). length o.starts) r);
      a = written (writes (λ (o : BarLists). o.starts) r) l.a;
      b = written (writes (λ (o : BarLists). o.marks) r) l.b;
      c = l.c;
      d = l.d;
      e = l.e;
      work = l.work;
    }

-- c: counts, d: heads, e: leftovers, a: keys
abbrev pub engrave_left : StaffSize → Result EngravedLists → Left → Left
engrave_left size r l =
    record {
      said = saying size_numbers l.said (answers (λ (o : EngravedLists). size) r);
      a = written (writes (λ (o : EngravedLists). o.staff.keys) r) l.a;
      b = l.b;
      c = written (writes (λ (o : EngravedLists). o.staff.counts) r) l.c;
      d = written (writes (λ (o : EngravedLists). o.staff.heads) r) l.d;
      e = written (writes (λ (o : EngravedLists). o.leftovers) r) l.e;
      work = cleared l.work;
    }

-- a: ticks, c: words
abbrev pub automation_left : Result AutomationLists → Left → Left
automation_left r l =
    record {
      said = saying automation_numbers l.said (answers counts_of r);
      a = written (writes (λ (o : AutomationLists). o.ticks) r) l.a;
      b = l.b;
      c = written (writes (λ (o : AutomationLists). o.words) r) l.c;
      d = l.d;
      e = l.e;
      work = l.work;
    }

-- a: places, b: details
abbrev pub diagnostics_left : Result (List Diagnostic) → Left → Left
diagnostics_left r l =
    record {
      said = saying count_numbers l.said (answers length r);
      a = written (writes (map place_of) r) l.a;
      b = written (writes (map detail_of) r) l.b;
      c = l.c;
      d = l.d;
      e = l.e;
      work = cleared l.work;
    }

-- a call on a file: c sizes, d deltas, e words
abbrev pub file_lent : Left → files.Left
file_lent l = record { said = l.said; sizes = l.c; deltas = l.d; words = l.e }

abbrev pub file_left : files.Left → Left → Left
file_left f l = record { said = f.said; a = l.a; b = l.b; c = f.sizes; d = f.deltas; e = f.words; work = l.work }

-- ---- the calls by their numbers

-- the staff that is read: c its counts, d its heads, a its keys
abbrev pub staff_lent : Left → StaffArrays
staff_lent l = record { counts = l.c; heads = l.d; keys = l.a }

-- What a call leaves, by its number, the part, the piece, the file's bytes and what was lent. No other number changes anything.
unfoldable pub outcome : ℕ → ℕ → Piece → List ℕ → Left → Left
outcome code part x bytes l =
    cond (eqb code 1) (answer_left head_numbers (head_call x) l)
    (cond (eqb code 2) (answer_left count_numbers (part_count_call x) l)
    (cond (eqb code 3) (answer_left part_head_numbers (part_head_call x part) l)
    (cond (eqb code 4) (bars_left (bars_call x (length l.a) (length l.b)) l)
    (cond (eqb code 5) (work_left size_numbers (staff_size_call x part (length l.work)) l)
    (cond (eqb code 6)
    (engrave_left (part_size x part) (engrave_call x part (length l.c) (length l.d) (length l.a) (length l.e) (length l.work)) l)
    (cond (eqb code 7) (automation_left (automation_call x part (length l.a) (length l.c)) l)
    (cond (eqb code 8) (diagnostics_left (diagnostics_call x (length l.a) (length l.b) (length l.work)) l)
    (cond (eqb code 11) (work_left read_numbers (proof_read_call x part (staff_lent l) (length l.work)) l)
    (file_left (files.outcome code bytes (file_lent l)) l)))))))))
