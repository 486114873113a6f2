-- `not_plain_words` joins bits that no plain word has. The invariant: where there are none so far, the words so far are well formed.
use mathlib.Core.Path.{◌≡◌}
use Rattle.admission.specs.Bad.{AllFormed}
use Rattle.admission.proofs.not_plain_words.Given as goal

abbrev pub invariant-loop-i : goal.invariant-loop-i
invariant-loop-i l = l.all ≡ 0 → AllFormed l.words l.from l.i
