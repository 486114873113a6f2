-- `bad_words` joins forbidden bits. The invariant: where there are none so far, the words so far are well formed.
use mathlib.Core.Path.{◌≡◌}
use Rattle.admission.specs.Bad.{AllFormed}
use Rattle.admission.proofs.bad_words.Given as goal

abbrev pub invariant-loop-i : goal.invariant-loop-i
invariant-loop-i l = l.bad ≡ 0 → AllFormed l.words l.from l.i
