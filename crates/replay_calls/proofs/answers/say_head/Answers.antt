-- `say_head`: tempo, meter, and the key where there is one.
use borrow.Author.Rules.{rules}
use mir.Facts.{to_z-of_z}
use mir.Syntax.{w32}
use mir.Val.{SFits}
use Rattle.replay_calls.proofs.answers.say_head.Goals as goal

pub returns-in-Some : goal.returns-in-Some
returns-in-Some c =
    let fifths_fit : SFits w32 c.in-Some.key.fifths = search rules in
    rw c.in-Some.is
    (rw (
      c.from-tempo.ensures,
      c.from-upper.ensures,
      c.from-lower.ensures,
      c.raised-fifths.ensures,
      to_z-of_z fifths_fit,
    ) at c.say_five.ensures)

pub returns-in-None : goal.returns-in-None
returns-in-None c =
    rw c.in-None.is
    (rw (c.from-tempo.ensures, c.from-upper.ensures, c.from-lower.ensures) at c.say_five-in-None.ensures)
