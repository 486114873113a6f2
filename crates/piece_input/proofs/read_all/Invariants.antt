-- `piece_input::read_all` reads chunk after chunk. Invariant: what is held is right for the bytes so far, and the arrays keep their lengths.
use lib.ListN.{length}
use mathlib.Core.Path.{◌≡◌}
use Rattle.piece_input.specs.Input.{SoFar}
use Rattle.piece_input.proofs.read_all.Given as goal

abbrev pub invariant-loop : goal.invariant-loop
invariant-loop l = (length l.sizes ≡ length l.initial.sizes) × (length l.deltas ≡ length l.initial.deltas) × (length l.words ≡ length l.initial.words) × SoFar l.reader l.sizes l.deltas l.words
