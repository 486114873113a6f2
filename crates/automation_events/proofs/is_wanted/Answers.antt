-- `is_wanted` reads the array at the word's channel, which is below 16 where the word is of the list.
use mathlib.Core.Path.{sym, ◌∙◌}
use native.Mathlib.Omega.{arith}
use Rattle.automation_events.proofs.KindLaws.{one_channel}
use Rattle.automation_events.proofs.is_wanted.Goals as goal

pub bounds-dropped-byte_a : goal.bounds-dropped-byte_a
bounds-dropped-byte_a c =
    let h = one_channel _ c.requires c.args.kind (sym c.is_one.ensures ∙ c.if-is_one.true) in
    omega (arith, c.byte_a.ensures)
