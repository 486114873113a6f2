-- `call` leaves the outcome of its number: each arm what its call leaves, the rest what a call on a file does.
use native.Mathlib.Omega.{arith}
use Rattle.replay_calls.proofs.Outcomes.{head_left, count_left, part_head_left, bars_left, size_left, engrave_left, automation_left}
use Rattle.replay_calls.proofs.Outcomes.{diagnostics_left, read_left, file_left}
use Rattle.replay_calls.proofs.call.Goals as goal

pub returns-in-1 : goal.returns-in-1
returns-in-1 c =
    head_left _ _ _ _ _ c.in-1.is c.head.ensures

pub returns-in-2 : goal.returns-in-2
returns-in-2 c =
    count_left _ _ _ _ _ c.in-2.is c.part_count.ensures

pub returns-in-3 : goal.returns-in-3
returns-in-3 c =
    part_head_left _ _ _ _ _ c.in-3.is c.part_head.ensures

pub returns-in-4 : goal.returns-in-4
returns-in-4 c =
    bars_left _ _ _ _ _ c.in-4.is c.bars.ensures

pub returns-in-5 : goal.returns-in-5
returns-in-5 c =
    size_left _ _ _ _ _ c.in-5.is c.staff_size.ensures

pub returns-in-6 : goal.returns-in-6
returns-in-6 c =
    engrave_left _ _ _ _ _ c.in-6.is c.engrave.ensures

pub returns-in-7 : goal.returns-in-7
returns-in-7 c =
    automation_left _ _ _ _ _ c.in-7.is c.automation.ensures

pub returns-in-8 : goal.returns-in-8
returns-in-8 c =
    diagnostics_left _ _ _ _ _ c.in-8.is c.diagnostics.ensures

pub returns-in-11 : goal.returns-in-11
returns-in-11 c =
    read_left _ _ _ _ _ c.in-11.is c.proof_read.ensures

pub returns-in_default : goal.returns-in_default
returns-in_default c =
    file_left _ _ _ _ _ (λ e. omega arith) (λ e. omega arith) (λ e. omega arith) (λ e. omega arith) (λ e. omega arith) (λ e. omega arith) (λ e. omega arith) (λ e. omega arith) (λ e. omega arith) c.call.ensures
