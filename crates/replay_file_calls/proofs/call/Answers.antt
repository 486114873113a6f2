-- `call` leaves the outcome of its number: each arm what its call leaves, the rest nothing changed.
use native.Mathlib.Omega.{arith}
use Rattle.replay_file_calls.proofs.Outcomes.{size_left, read_left, none_left}
use Rattle.replay_file_calls.proofs.call.Goals as goal

pub returns-in-9 : goal.returns-in-9
returns-in-9 c =
    size_left _ _ _ _ c.in-9.is c.read_size.ensures c.say_piece.ensures

pub returns-in-10 : goal.returns-in-10
returns-in-10 c =
    read_left _ _ _ _ c.in-10.is c.read.ensures c.say_piece-in-10.ensures

pub returns-in_default : goal.returns-in_default
returns-in_default c = none_left _ _ _ (λ e. omega arith) (λ e. omega arith)
