-- `choose` chooses as the rules do, whatever the voices are of which the last starts and ends are known.
use mathlib.Core.Path.{sym, ◌∙◌}
use Rattle.voices.proofs.Choosing.{known_free, known_together, known_cut}
use Rattle.voices.proofs.choose.Goals as goal

pub returns-in-Some : goal.returns-in-Some
returns-in-Some c x vs lens e k = known_free x e k (sym c.first_free.ensures ∙ c.in-Some.is)

pub returns-in-Some-first_together : goal.returns-in-Some-first_together
returns-in-Some-first_together c x vs lens e k =
    known_together x e k (sym c.first_free.ensures ∙ c.in_default.is) (sym c.first_together.ensures ∙ c.in-Some-first_together.is)

pub returns : goal.returns
returns c x vs lens e k =
    known_cut x e k (sym c.first_free.ensures ∙ c.in_default.is) (sym c.first_together.ensures ∙ c.in_default-first_together.is) c.earliest.ensures
