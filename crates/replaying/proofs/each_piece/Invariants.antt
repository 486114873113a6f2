-- `replaying::each_piece` goes through the pieces. The invariant: the turns that are left give what all of them give.
use Rattle.replaying.specs.Running.{piece_turn}
use Rattle.replaying.proofs.Turns.{Turning}
use Rattle.replaying.proofs.each_piece.Given as goal

abbrev pub invariant-loop : goal.invariant-loop
invariant-loop l = Turning (piece_turn l.text) l.count l.initial.s l.s l.counter
