-- `spelling_values`: octave and alteration keep their values in more bits.
use borrow.Author.Rules.{rules}
use mir.Syntax.{w8}
use mir.Val.{SFits}
use mir.Facts.{sfits_widen, to_z-of_z}
use Rattle.acorde.proofs.value_entries.spelling_values.Goals as goal

pub overflow_cast-result : goal.overflow_cast-result
overflow_cast-result c =
    let octave_fits : (SFits w8 c.args.p.octave) = search rules in
    rw (to_z-of_z (octave_fits)) (sfits_widen tt (octave_fits))

pub overflow_cast-result-2 : goal.overflow_cast-result-2
overflow_cast-result-2 c =
    let alter_fits : (SFits w8 c.args.p.alter) = search rules in
    rw (to_z-of_z (alter_fits)) (sfits_widen tt (alter_fits))

pub returns : goal.returns
returns c =
    let octave_fits : (SFits w8 c.args.p.octave) = search rules in
    let alter_fits : (SFits w8 c.args.p.alter) = search rules in
    let o = octave_fits in
    let a = alter_fits in
    rw (c.step_number.ensures, to_z-of_z o, to_z-of_z a)
    (rw (to_z-of_z (sfits_widen tt o), to_z-of_z (sfits_widen tt a)) (search rules))
