-- Worked lines of items: what the definitions make of them.
use Prim.Native.Nat.{◌+◌, ◌^◌}
use mathlib.Core.List.{[], ◌∷◌}
use mathlib.Core.Path.{◌≡◌, refl}
use Rattle.line_text.specs.Text.{decimal_in, decimal}
use Rattle.item_lines.specs.Items.{bit_key, word_keys, behind_commas, commas, sound_text, letter, item_end, value_text, ties_text, item_line}

-- 0 4 0 -- 60\n
pub item : item_line 0 4 (2 ^ 60) 0 ≡ 48 ∷ 32 ∷ 52 ∷ 32 ∷ 48 ∷ 32 ∷ 45 ∷ 45 ∷ 32 ∷ 54 ∷ 48 ∷ 10 ∷ []
unfolding decimal_in decimal bit_key word_keys behind_commas commas sound_text letter item_end value_text ties_text
item = refl

-- 0 3 1 -- rest\n
pub rest : item_line 0 (3 + 16 + 256) 0 0 ≡ 48 ∷ 32 ∷ 51 ∷ 32 ∷ 49 ∷ 32 ∷ 45 ∷ 45 ∷ 32 ∷ 114 ∷ 101 ∷ 115 ∷ 116 ∷ 10 ∷ []
unfolding decimal_in decimal bit_key word_keys behind_commas commas sound_text letter item_end value_text ties_text
rest = refl

-- 3 2 0 es 0,63,64,127 u\n
pub chord : item_line 3 (2 + 32 + 64 + 128) (1 + 2 ^ 63) (1 + 2 ^ 63)
    ≡ 51 ∷ 32 ∷ 50 ∷ 32 ∷ 48 ∷ 32 ∷ 101 ∷ 115 ∷ 32 ∷ 48 ∷ 44 ∷ 54 ∷ 51 ∷ 44 ∷ 54 ∷ 52 ∷ 44 ∷ 49 ∷ 50 ∷ 55 ∷ 32 ∷ 117 ∷ 10 ∷ []
unfolding decimal_in decimal bit_key word_keys behind_commas commas sound_text letter item_end value_text ties_text
chord = refl
