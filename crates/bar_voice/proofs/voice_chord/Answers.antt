-- `voice_chord`: the chord's number stands in the voice's column.
use native.Mathlib.Omega.{arith}
use Rattle.voices.proofs.Cells.{column_end}
use Rattle.bar_voice.proofs.voice_chord.Goals as goal

pub overflow_mul-i : goal.overflow_mul-i
overflow_mul-i c = let given = c.args in omega (arith, column_end given.n given.v c.requires.1)

pub overflow_add-i-2 : goal.overflow_add-i-2
overflow_add-i-2 c = let given = c.args in omega (arith, column_end given.n given.v c.requires.1)

pub offset_bounds-work-v : goal.offset_bounds-work-v
offset_bounds-work-v c = let given = c.args in omega (arith, column_end given.n given.v c.requires.1)

pub bounds-work-v : goal.bounds-work-v
bounds-work-v c = let given = c.args in omega (arith, column_end given.n given.v c.requires.1)
