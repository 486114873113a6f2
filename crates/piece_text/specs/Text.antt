-- The text of a piece, read byte by byte: three lines of decimals, sizes, deltas and words.
--
-- Numbers stand between blanks: spaces, tabs and carriage returns, any number of them, also at a line's ends. A number has
-- digits alone and is at most 4,294,967,295. A line ends with a line feed, the last also with the text. A line with no number is an empty array. There are
-- just three lines.
use Rattle.std.specs.Prelude.{ℕ, ◌+◌, ◌-◌, ◌*◌, Bool, true, false, cond, not, ◌&&◌, ◌||◌, List, [], ◌∷◌, ◌++◌, eqb, leb, ltb}
use Rattle.std.proofs.Math.Option.{Option, none, some}
use Rattle.rules.specs.Piece.{Piece, piece}
use Rattle.piece_text.specs.declared.Place.{Place}

-- ---- bytes

abbrev pub is_digit : ℕ → Bool
is_digit b = leb 48 b && leb b 57

abbrev pub is_blank : ℕ → Bool
is_blank b = eqb b 32 || eqb b 9 || eqb b 13

abbrev pub is_line_feed : ℕ → Bool
is_line_feed b = eqb b 10

abbrev pub ends_number : ℕ → Bool
ends_number b = is_blank b || is_line_feed b

abbrev pub largest_number : ℕ
largest_number = 4294967295

-- ---- places

-- The start of a text: no line ended, nothing in the line, no number begun, nothing bad.
abbrev pub begin : Place
begin = record { line = 0; started = false; begun = false; value = 0; bad = false }

-- no such text
abbrev pub spoiled : Place → Place
spoiled p = record { line = p.line; started = p.started; begun = p.begun; value = p.value; bad = true }

-- a digit more
abbrev pub with_digit : Place → ℕ → Place
with_digit p b =
    cond (ltb largest_number (p.value * 10 + (b - 48))) (spoiled p)
    (record { line = p.line; started = true; begun = true; value = p.value * 10 + (b - 48); bad = p.bad })

-- behind a number's end, and behind a line's
abbrev pub number_ended : Place → Place
number_ended p = record { line = p.line; started = true; begun = false; value = 0; bad = p.bad }

abbrev pub line_ended : Place → Place
line_ended p = record { line = p.line + 1; started = false; begun = false; value = 0; bad = p.bad }

-- behind one byte more; nothing may stand behind the third line
unfoldable pub place_after : Place → ℕ → Place
place_after p b =
    cond (ltb 2 p.line) (spoiled p)
    (cond (is_digit b) (with_digit p b)
    (cond (is_blank b) (number_ended p)
    (cond (is_line_feed b) (line_ended p) (spoiled p))))

-- the third line has ended, or the text ends in it
abbrev pub three_lines : Place → Bool
three_lines p = not p.bad && (eqb p.line 3 || eqb p.line 2 && p.started)

-- ---- numbers

-- a number more in the array of a line
unfoldable pub put_number : ℕ → ℕ → Piece → Piece
put_number line v x =
    cond (eqb line 0) (piece (x.sizes ++ (v ∷ [])) x.deltas x.words)
    (cond (eqb line 1) (piece x.sizes (x.deltas ++ (v ∷ [])) x.words)
    (cond (eqb line 2) (piece x.sizes x.deltas (x.words ++ (v ∷ []))) x))

-- the number begun, where there is one
abbrev pub put_begun : Place → Piece → Piece
put_begun p x = cond p.begun (put_number p.line p.value x) x

-- ---- the text

-- How far a text is read, and its numbers.
pub record Reading : Type 0 where
  pub at : Place
  pub numbers : Piece

abbrev pub stepped : Reading → ℕ → Reading
stepped a b =
    record { at = place_after a.at b; numbers = cond (ends_number b) (put_begun a.at a.numbers) a.numbers }

unfoldable pub read_on : Reading → List ℕ → Reading
read_on a [] = a
read_on a (b ∷ bs) = read_on (stepped a b) bs

abbrev pub nothing_read : Reading
nothing_read = record { at = begin; numbers = piece [] [] [] }

-- the piece, where the text ends here
unfoldable pub ended : Reading → Option Piece
ended a = cond (three_lines a.at) (some (put_begun a.at a.numbers)) none

-- The piece of a text; none where it isn't three such lines.
abbrev pub text_piece : List ℕ → Option Piece
text_piece bs = ended (read_on nothing_read bs)
