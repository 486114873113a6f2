-- `replaying::each_call` makes the calls of a piece. The invariant: the turns that are left give what all of them give.
use Rattle.rules.specs.Piece.{piece}
use Rattle.replaying.specs.Running.{call_turn}
use Rattle.replaying.proofs.Turns.{Turning}
use Rattle.replaying.proofs.each_call.Given as goal

abbrev pub invariant-loop-i : goal.invariant-loop-i
invariant-loop-i l = Turning (call_turn l.text (piece l.sizes l.deltas l.words) l.bytes) l.count l.initial.s l.s l.i
