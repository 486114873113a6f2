-- `has_notes` looks for a start. The invariant: there is one among the words left exactly if there is one at all.
use mathlib.Core.Path.{◌≡◌}
use lib.ListN.{drop}
use Rattle.rules.specs.Lists.{any}
use Rattle.rules.specs.Piece.{is_on}
use Rattle.tracks.proofs.has_notes.Given as goal

abbrev pub invariant-loop-word : goal.invariant-loop-word
invariant-loop-word l = any is_on (drop l.word-index l.words) ≡ any is_on l.words
