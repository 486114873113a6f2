-- Turned back: a call's answer is one of document 01's numbers, or what was asked for. A call's refusals stand in the order of the numbers.
use Rattle.std.specs.Prelude.{ℕ, ◌+◌, ◌*◌, Bool, cond, not, List, [], ◌∷◌, ◌++◌, eqb, leb, ltb, length}
use Rattle.rules.specs.Lists.{is_empty}
use Rattle.rules.specs.Piece.{Piece, division, sizes_agree, well_formed}
use Rattle.rules.specs.RawNotes.{parts, most_notes}
use Rattle.rules.specs.Spelling.{largest_key}
use Rattle.rules.specs.Values.{largest_code, most_dots}

-- A refusal is its number alone.
pub data Result (A : Type 0) : Type 0 where
  refused : ℕ → Result A
  given : A → Result A

-- a refusal: its number, and whether it applies
pub record Refusal : Type 0 where
  pub number : ℕ
  pub applies : Bool

abbrev pub refuse : ℕ → Bool → Refusal
refuse n t = record { number = n; applies = t }

-- The first refusal of a list that applies, else the answer.
unfoldable pub unless : {A : Type 0} → List Refusal → A → Result A
unless [] a = given a
unless (r ∷ rs) a = cond r.applies (refused r.number) (unless rs a)

-- the number of the first refusal that applies; 0 where none does
unfoldable pub first_number : List Refusal → ℕ
first_number [] = 0
first_number (r ∷ rs) = cond r.applies r.number (first_number rs)

-- what a call answers by value
abbrev pub answers : {A B : Type 0} → (A → B) → Result A → Result B
answers f (refused n) = refused n
answers f (given a) = given (f a)

-- an answer told as it is
abbrev pub as_it_is : {A : Type 0} → A → A
as_it_is a = a

-- what a call writes to a lent output: nothing where it refuses
abbrev pub writes : {A : Type 0} → (A → List ℕ) → Result A → List ℕ
writes f (refused n) = []
writes f (given a) = f a

-- ---- the numbers

-- The most events, and the largest delta.
abbrev pub most_events : ℕ
most_events = 500000

abbrev pub largest_delta : ℕ
largest_delta = 268435455

-- 4 and 5 at the first bad event, 4 first: delta above 268,435,455, bad word.
unfoldable pub event_refusals : List ℕ → List ℕ → List Refusal
event_refusals [] ws = []
event_refusals (d ∷ ds) [] = []
event_refusals (d ∷ ds) (w ∷ ws) = refuse 4 (ltb largest_delta d) ∷ refuse 5 (not (well_formed w)) ∷ event_refusals ds ws

-- 1 sizes disagree or too large, 2 division 0, 3 over 500,000 events, then 4 and 5.
unfoldable pub piece_refusals : Piece → List Refusal
piece_refusals x =
    refuse 1 (not (sizes_agree x))
    ∷ refuse 2 (eqb (division x) 0)
    ∷ refuse 3 (ltb most_events (length x.deltas))
    ∷ event_refusals x.deltas x.words

-- and 6, no notes
abbrev pub note_refusals : Piece → List Refusal
note_refusals x = piece_refusals x ++ (refuse 6 (is_empty (parts x)) ∷ [])

-- and 7, no such part
abbrev pub part_refusals : Piece → ℕ → List Refusal
part_refusals x k = note_refusals x ++ (refuse 7 (leb (length (parts x)) k) ∷ [])

-- 8: too little space. A work area has at least 16 N + 4,096 words, N the most note-ons in one track; an output is as long as its list or longer.
abbrev pub work_for : ℕ → ℕ
work_for n = 16 * n + 4096

abbrev pub work_needed : Piece → ℕ
work_needed x = work_for (most_notes x)

abbrev pub short_work : Piece → ℕ → Refusal
short_work x work = refuse 8 (ltb work (work_needed x))

abbrev pub short_output : ℕ → List ℕ → Refusal
short_output room xs = refuse 8 (ltb room (length xs))

-- 9: uneven
abbrev pub uneven_part : Bool → Refusal
uneven_part even = refuse 9 (not even)

-- 10: a code, dots or a key out of range
abbrev pub bad_code : ℕ → Refusal
bad_code code = refuse 10 (ltb largest_code code)

abbrev pub bad_dots : ℕ → Refusal
bad_dots dots = refuse 10 (ltb most_dots dots)

abbrev pub bad_key : ℕ → Refusal
bad_key key = refuse 10 (ltb largest_key key)
