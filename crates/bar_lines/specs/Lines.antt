-- The lines of a bar, of a part and of a refusal, as bytes.
use Rattle.std.specs.Prelude.{ℕ, ◌-◌, Bool, cond, List, [], ◌∷◌, ◌++◌, eqb, ltb}
use Rattle.rules.specs.Changes.{Meter}
use Rattle.rules.specs.Bars.{bar_length}
use Rattle.bar_marks.specs.declared.Mark.{Mark}
use Rattle.bar_marks.specs.Marks.{unpacked}
use Rattle.line_text.specs.Text.{decimal}

-- ---- a bar's line

abbrev pub meter_of : Mark → Meter
meter_of m = record { upper = m.upper; lower = m.lower }

-- the meter if printed, the tempo, the key as fifths and M or m; `-` where absent
unfoldable pub meter_text : ℕ → ℕ → Bool → List ℕ
meter_text upper lower printed = cond printed (decimal upper ++ 47 ∷ decimal lower) (45 ∷ [])

unfoldable pub tempo_text : ℕ → List ℕ
tempo_text tempo = cond (eqb tempo 0) (45 ∷ []) (decimal tempo)

-- fifths from fifths + 8
unfoldable pub fifths_text : ℕ → List ℕ
fifths_text raised = cond (ltb raised 8) (45 ∷ decimal (8 - raised)) (decimal (raised - 8))

unfoldable pub key_text : ℕ → Bool → List ℕ
key_text raised minor = cond (eqb raised 0) (45 ∷ []) (fifths_text raised ++ cond minor (109 ∷ []) (77 ∷ []))

-- `bar`, number, start, length
unfoldable pub bar_head : ℕ → ℕ → ℕ → Meter → List ℕ
bar_head p number start meter =
    98 ∷ 97 ∷ 114 ∷ 32 ∷ decimal number ++ 32 ∷ decimal start ++ 32 ∷ decimal (bar_length p meter)

-- meter, tempo, key
unfoldable pub bar_marks : Mark → List ℕ
bar_marks m =
    32 ∷ meter_text m.upper m.lower m.printed
    ++ 32 ∷ tempo_text m.tempo ++ 32 ∷ key_text m.fifths m.minor ++ 10 ∷ []

-- Number, start, length, then what the bar's mark says.
abbrev pub bar_line : ℕ → ℕ → ℕ → ℕ → List ℕ
bar_line p number start mark = bar_head p number start (meter_of (unpacked mark)) ++ bar_marks (unpacked mark)

-- ---- the other lines

-- `part`, its number, `bars`, their count.
abbrev pub part_line : ℕ → ℕ → List ℕ
part_line part bars =
    112 ∷ 97 ∷ 114 ∷ 116 ∷ 32 ∷ decimal part ++ 32 ∷ 98 ∷ 97 ∷ 114 ∷ 115 ∷ 32 ∷ decimal bars ++ 10 ∷ []

-- `refused`, and the number.
abbrev pub refused_line : ℕ → List ℕ
refused_line number = 114 ∷ 101 ∷ 102 ∷ 117 ∷ 115 ∷ 101 ∷ 100 ∷ 32 ∷ decimal number ++ 10 ∷ []
