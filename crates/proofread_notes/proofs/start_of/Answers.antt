-- `start_of` snaps a note's start, which is in range.
use native.Mathlib.Omega.{arith}
use Rattle.proofread_notes.proofs.start_of.Goals as goal

pub snap_to-requires : goal.snap_to-requires
snap_to-requires c =
    let r = c.requires.0.range c.args.i c.requires.1 in
    omega (arith, r.start, c.requires.0.some_grid, c.requires.0.small_grid)
