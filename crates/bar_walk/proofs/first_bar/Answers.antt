-- `first_bar` settles the walker that starts with the head's meter.
use native.Mathlib.Omega.{arith}
use Rattle.bar_walk.proofs.StepLaws.{walk_start}
use Rattle.bar_walk.proofs.first_bar.Goals as goal

pub take_changes-requires : goal.take_changes-requires
take_changes-requires c =
    let head = c.read_head-head.ensures in
    rw (c.new.ensures, head.upper, head.lower) (record { track = c.requires; taking = walk_start _ _ _; start = omega arith })

pub returns : goal.returns
returns c =
    let head = c.read_head-head.ensures in
    rw (c.new.ensures, head.upper, head.lower) at c.take_changes.ensures
