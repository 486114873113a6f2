-- `flat_name` meets its contract: the name at each place of the list, and C past its end. Assumes nothing.
use Rattle.rules.specs.Spelling.{flat_names}
use native.Mathlib.Omega.{arith}
use Rattle.pitch.proofs.Laws.{name_at, name_past}
use Rattle.pitch.proofs.flat_name.Goals as goal

pub returns-in-0 : goal.returns-in-0
returns-in-0 c = name_at flat_names 0 c.in-0.is

pub returns-in-1 : goal.returns-in-1
returns-in-1 c = name_at flat_names 1 c.in-1.is

pub returns-in-2 : goal.returns-in-2
returns-in-2 c = name_at flat_names 2 c.in-2.is

pub returns-in-3 : goal.returns-in-3
returns-in-3 c = name_at flat_names 3 c.in-3.is

pub returns-in-4 : goal.returns-in-4
returns-in-4 c = name_at flat_names 4 c.in-4.is

pub returns-in-5 : goal.returns-in-5
returns-in-5 c = name_at flat_names 5 c.in-5.is

pub returns-in-6 : goal.returns-in-6
returns-in-6 c = name_at flat_names 6 c.in-6.is

pub returns-in-7 : goal.returns-in-7
returns-in-7 c = name_at flat_names 7 c.in-7.is

pub returns-in-8 : goal.returns-in-8
returns-in-8 c = name_at flat_names 8 c.in-8.is

pub returns-in-9 : goal.returns-in-9
returns-in-9 c = name_at flat_names 9 c.in-9.is

pub returns-in-10 : goal.returns-in-10
returns-in-10 c = name_at flat_names 10 c.in-10.is

pub returns-in-11 : goal.returns-in-11
returns-in-11 c = name_at flat_names 11 c.in-11.is

pub returns-in_default : goal.returns-in_default
returns-in_default c = name_past flat_names c.args.pc (omega arith)
