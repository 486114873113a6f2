-- `replayed::step` meets its contract, case by case.
use Rattle.replayed.proofs.step.Goals as goal

pub returns-in-Before : goal.returns-in-Before
returns-in-Before c = cc

pub returns-in-Inside : goal.returns-in-Inside
returns-in-Inside c = cc

pub returns-in-Number : goal.returns-in-Number
returns-in-Number c = cc
