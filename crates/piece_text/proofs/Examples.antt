-- Worked texts: what the definition makes of them.
use mathlib.Core.List.{[], ◌∷◌}
use mathlib.Core.Option.{none, some}
use mathlib.Core.Path.{◌≡◌, refl}
use Rattle.rules.specs.Piece.{piece}
use Rattle.piece_text.specs.Text.{place_after, put_number, read_on, ended, text_piece}

-- 480 1 3\n0 480 0\n151010368 134233088 100663296\n
pub example : text_piece
    (52 ∷ 56 ∷ 48 ∷ 32 ∷ 49 ∷ 32 ∷ 51 ∷ 10 ∷ 48 ∷ 32 ∷ 52 ∷ 56 ∷ 48 ∷ 32 ∷ 48 ∷ 10 ∷ 49 ∷ 53 ∷ 49 ∷ 48 ∷ 49 ∷ 48 ∷ 51 ∷ 54 ∷ 56 ∷ 32 ∷ 49 ∷ 51 ∷ 52 ∷ 50
    ∷ 51 ∷ 51 ∷ 48 ∷ 56 ∷ 56 ∷ 32 ∷ 49 ∷ 48 ∷ 48 ∷ 54 ∷ 54 ∷ 51 ∷ 50 ∷ 57 ∷ 54 ∷ 10 ∷ [])
    ≡ some (piece (480 ∷ 1 ∷ 3 ∷ []) (0 ∷ 480 ∷ 0 ∷ []) (151010368 ∷ 134233088 ∷ 100663296 ∷ []))
unfolding place_after put_number read_on ended
example = refl

--  4  5\r\n\t6\n7
pub blanks : text_piece (32 ∷ 52 ∷ 32 ∷ 32 ∷ 53 ∷ 13 ∷ 10 ∷ 9 ∷ 54 ∷ 10 ∷ 55 ∷ 32 ∷ []) ≡ some (piece (4 ∷ 5 ∷ []) (6 ∷ []) (7 ∷ []))
unfolding place_after put_number read_on ended
blanks = refl

-- 480 0\n\n\n
pub empty_arrays : text_piece (52 ∷ 56 ∷ 48 ∷ 32 ∷ 48 ∷ 10 ∷ 10 ∷ 10 ∷ []) ≡ some (piece (480 ∷ 0 ∷ []) ([]) ([]))
unfolding place_after put_number read_on ended
empty_arrays = refl

-- 480 0\n\n
pub two_lines : text_piece (52 ∷ 56 ∷ 48 ∷ 32 ∷ 48 ∷ 10 ∷ 10 ∷ []) ≡ none
unfolding place_after put_number read_on ended
two_lines = refl

-- 4\n5\n6\n\n
pub four_lines : text_piece (52 ∷ 10 ∷ 53 ∷ 10 ∷ 54 ∷ 10 ∷ 10 ∷ []) ≡ none
unfolding place_after put_number read_on ended
four_lines = refl

-- 4294967295\n\n\n
pub largest : text_piece (52 ∷ 50 ∷ 57 ∷ 52 ∷ 57 ∷ 54 ∷ 55 ∷ 50 ∷ 57 ∷ 53 ∷ 10 ∷ 10 ∷ 10 ∷ []) ≡ some (piece (4294967295 ∷ []) ([]) ([]))
unfolding place_after put_number read_on ended
largest = refl

-- 4294967296\n\n\n
pub too_large : text_piece (52 ∷ 50 ∷ 57 ∷ 52 ∷ 57 ∷ 54 ∷ 55 ∷ 50 ∷ 57 ∷ 54 ∷ 10 ∷ 10 ∷ 10 ∷ []) ≡ none
unfolding place_after put_number read_on ended
too_large = refl

-- 4\n-5\n6\n
pub another_byte : text_piece (52 ∷ 10 ∷ 45 ∷ 53 ∷ 10 ∷ 54 ∷ 10 ∷ []) ≡ none
unfolding place_after put_number read_on ended
another_byte = refl
