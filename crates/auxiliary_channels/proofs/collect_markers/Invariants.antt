-- The pairs of the words left, from the pairs so far, are the pairs of all words.
use mathlib.Core.List.{foldl}
use mathlib.Core.Path.{◌≡◌}
use lib.ListN.{drop}
use Rattle.std.specs.Prelude.{Some}
use Rattle.auxiliary_channels.specs.Markers.{then_taken, pairs_of}
use Rattle.auxiliary_channels.proofs.collect_markers.Given as goal

abbrev pub invariant-loop-word : goal.invariant-loop-word
invariant-loop-word l = foldl then_taken (Some l.pairs) (drop l.word-index l.words) ≡ pairs_of l.words
