-- `replayed::first_not_zero` meets its contract: where no number is before it, as many zeros agree.
use Rattle.std.proofs.Common.{rules, tests}
use Rattle.std.proofs.lemmas.Iterator.{YieldsList-from_slice}
use Rattle.std.proofs.lemmas.Iterator.Search.{position_from_yields_List}
use Rattle.replayed.proofs.Laws.{first_is}
use Rattle.replayed.proofs.first_not_zero.Goals as goal

pub returns : goal.returns
returns c =
    first_is _ c.position.result
    (position_from_yields_List _ _ _ c.position.result c.position.ensures.ran (YieldsList-from_slice c.args.l.now cc) (λ x b q k. search (rules, tests)))
