-- `end_of` snaps a note's end: the ranges of the notes keep the sums small.
use native.Mathlib.Omega.{arith}
use Rattle.proofread_notes.proofs.end_of.Goals as goal

pub overflow_add-least : goal.overflow_add-least
overflow_add-least c = omega (arith, c.start_of.ensures.1, c.requires.0.small_grid)

pub snap_to-requires : goal.snap_to-requires
snap_to-requires c =
    let r = c.requires.0.range c.args.i c.requires.1 in
    omega (arith, r.end, c.requires.0.some_grid, c.requires.0.small_grid)
