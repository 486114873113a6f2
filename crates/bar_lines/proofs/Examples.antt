-- Worked lines of bars, a part and a refusal: what the definitions make of them.
use Prim.Native.Nat.{◌+◌, ◌*◌, ◌^◌}
use mathlib.Core.List.{[], ◌∷◌}
use mathlib.Core.Path.{◌≡◌, refl}
use Rattle.line_text.specs.Text.{decimal_in, decimal}
use Rattle.bar_lines.specs.Lines.{meter_text, tempo_text, fifths_text, key_text, bar_head, bar_marks, bar_line, part_line, refused_line}

-- bar 1 0 1920 4/4 - -\n
pub bar : bar_line 480 1 0 (4 + 4 * 2 ^ 8 + 2 ^ 16)
    ≡ 98 ∷ 97 ∷ 114 ∷ 32 ∷ 49 ∷ 32 ∷ 48 ∷ 32 ∷ 49 ∷ 57 ∷ 50 ∷ 48 ∷ 32 ∷ 52 ∷ 47 ∷ 52 ∷ 32 ∷ 45 ∷ 32 ∷ 45 ∷ 10 ∷ []
unfolding decimal_in decimal meter_text tempo_text fifths_text key_text bar_head bar_marks
bar = refl

-- bar 12 1440 1440 - 150 -3m\n
pub marked_bar : bar_line 480 12 1440 (6 + 8 * 2 ^ 8 + 150 * 2 ^ 17 + 5 * 2 ^ 27 + 2 ^ 32)
    ≡ 98 ∷ 97 ∷ 114 ∷ 32 ∷ 49 ∷ 50 ∷ 32 ∷ 49 ∷ 52 ∷ 52 ∷ 48 ∷ 32 ∷ 49 ∷ 52 ∷ 52 ∷ 48 ∷ 32 ∷ 45 ∷ 32 ∷ 49 ∷ 53 ∷ 48 ∷ 32 ∷ 45 ∷ 51 ∷ 109 ∷ 10 ∷ []
unfolding decimal_in decimal meter_text tempo_text fifths_text key_text bar_head bar_marks
marked_bar = refl

-- part 0 bars 1\n
pub part : part_line 0 1 ≡ 112 ∷ 97 ∷ 114 ∷ 116 ∷ 32 ∷ 48 ∷ 32 ∷ 98 ∷ 97 ∷ 114 ∷ 115 ∷ 32 ∷ 49 ∷ 10 ∷ []
unfolding decimal_in decimal meter_text tempo_text fifths_text key_text bar_head bar_marks
part = refl

-- refused 8\n
pub refusal : refused_line 8 ≡ 114 ∷ 101 ∷ 102 ∷ 117 ∷ 115 ∷ 101 ∷ 100 ∷ 32 ∷ 56 ∷ 10 ∷ []
unfolding decimal_in decimal meter_text tempo_text fifths_text key_text bar_head bar_marks
refusal = refl
