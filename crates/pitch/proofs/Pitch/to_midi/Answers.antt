-- `Pitch::to_midi` meets its contract. A signed local holds bits: each sum fits, so it is read back as it was. Assumes nothing.
use borrow.Author.Rules.{rules}
use native.Mathlib.Omega.{arith}
use Prim.Native.Nat.{◌<◌}
use mir.Syntax.{w8}
use mir.Val.{SFits}
use mir.Facts.{sfits_widen, to_z-of_z}
use Rattle.pitch.proofs.Laws.{read_wide, read_base, read_step, fits_next, fits_base, fits_natural, fits_key}
use Rattle.pitch.proofs.Pitch.to_midi.Goals as goal

pub overflow_cast-base : goal.overflow_cast-base
overflow_cast-base c =
    let octave_fits : (SFits w8 c.args.self.octave) = search rules in
    rw (to_z-of_z (octave_fits)) (sfits_widen tt (octave_fits))

pub overflow_add-base : goal.overflow_add-base
overflow_add-base c =
    let octave_fits : (SFits w8 c.args.self.octave) = search rules in
    rw (read_wide _ (octave_fits)) (fits_next _ (octave_fits))

pub overflow_mul-base : goal.overflow_mul-base
overflow_mul-base c =
    let octave_fits : (SFits w8 c.args.self.octave) = search rules in
    rw (read_wide _ (octave_fits), to_z-of_z (fits_next _ (octave_fits))) (fits_base _ (octave_fits))

pub overflow_add-result : goal.overflow_add-result
overflow_add-result c =
    let octave_fits : (SFits w8 c.args.self.octave) = search rules in
    let step_small : (c.to_semitone-semitone.result < 256) = omega arith in
    let f = octave_fits in
    rw (read_base _ f, read_step _ (step_small)) (fits_natural _ f _ (step_small))

pub overflow_cast-result : goal.overflow_cast-result
overflow_cast-result c =
    let alter_fits : (SFits w8 c.args.self.alter) = search rules in
    rw (to_z-of_z (alter_fits)) (sfits_widen tt (alter_fits))

pub overflow_add-result-2 : goal.overflow_add-result-2
overflow_add-result-2 c =
    let octave_fits : (SFits w8 c.args.self.octave) = search rules in
    let step_small : (c.to_semitone-semitone.result < 256) = omega arith in
    let alter_fits : (SFits w8 c.args.self.alter) = search rules in
    let f = octave_fits in
    let h = step_small in
    rw (read_base _ f, read_step _ h, to_z-of_z (fits_natural _ f _ h), read_wide _ (alter_fits)) (fits_key _ f _ _ h (alter_fits))

pub returns : goal.returns
returns c =
    let octave_fits : (SFits w8 c.args.self.octave) = search rules in
    let step_small : (c.to_semitone-semitone.result < 256) = omega arith in
    let alter_fits : (SFits w8 c.args.self.alter) = search rules in
    let f = octave_fits in
    let h = step_small in
    rw (
      read_base _ f,
      read_step _ h,
      to_z-of_z (fits_natural _ f _ h),
      read_wide _ (alter_fits),
      to_z-of_z (fits_key _ f _ _ h (alter_fits)),
      c.to_semitone-semitone.ensures,
    )
