-- `Duration::from_code` meets its contract: the law at each code. Assumes nothing.
use native.Mathlib.Omega.{arith}
use Rattle.duration.proofs.Laws.{given_code, refused_code}
use Rattle.duration.proofs.Duration.from_code.Goals as goal

pub returns-in-0 : goal.returns-in-0
returns-in-0 c = given_code 0 c.in-0.is tt

pub returns-in-1 : goal.returns-in-1
returns-in-1 c = given_code 1 c.in-1.is tt

pub returns-in-2 : goal.returns-in-2
returns-in-2 c = given_code 2 c.in-2.is tt

pub returns-in-3 : goal.returns-in-3
returns-in-3 c = given_code 3 c.in-3.is tt

pub returns-in-4 : goal.returns-in-4
returns-in-4 c = given_code 4 c.in-4.is tt

pub returns-in-5 : goal.returns-in-5
returns-in-5 c = given_code 5 c.in-5.is tt

pub returns-in-6 : goal.returns-in-6
returns-in-6 c = given_code 6 c.in-6.is tt

pub returns-in-7 : goal.returns-in-7
returns-in-7 c = given_code 7 c.in-7.is tt

pub returns-in-8 : goal.returns-in-8
returns-in-8 c = given_code 8 c.in-8.is tt

pub returns-in-9 : goal.returns-in-9
returns-in-9 c = given_code 9 c.in-9.is tt

pub returns-in_default : goal.returns-in_default
returns-in_default c = refused_code c.args.code (omega arith)
