-- `meta_fits` tests the length by the type as the definition does.
use native.Mathlib.Omega.{arith}
use borrow.Author.Tests.{ne_eqb}
use Rattle.rules.specs.File.{meta_fits}
use Rattle.file_events.proofs.meta_fits.Goals as goal

pub returns-in-47 : goal.returns-in-47
unfolding meta_fits
returns-in-47 c = rw c.in-47.is

pub returns-in-81 : goal.returns-in-81
unfolding meta_fits
returns-in-81 c = rw c.in-81.is

pub returns-in-88 : goal.returns-in-88
unfolding meta_fits
returns-in-88 c = rw c.in-88.is

pub returns-in-89 : goal.returns-in-89
unfolding meta_fits
returns-in-89 c = rw c.in-89.is

pub returns-in_default : goal.returns-in_default
unfolding meta_fits
returns-in_default c =
    rw (
      ne_eqb c.args.kind 47 (λ e. omega arith),
      ne_eqb c.args.kind 81 (λ e. omega arith),
      ne_eqb c.args.kind 88 (λ e. omega arith),
      ne_eqb c.args.kind 89 (λ e. omega arith),
    )
