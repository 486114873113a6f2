-- `replay_text::check` meets its contract: the first difference from what the array must hold.
use mathlib.Core.Path.{sym, ◌∙◌}
use lib.Seq.{length-take-le}
use Rattle.replayed.proofs.Laws.{values_length}
use Rattle.replay_text.proofs.Laws.{checked_is}
use Rattle.replay_text.proofs.check.Goals as goal

pub returns : goal.returns
returns g c =
    let room = length-take-le _ _ c.requires ∙ sym (values_length g.met.T.Number.one_by_one c.args.found.now) in
    checked_is _ _ _ _ _ _ _ room c.expected-next.ensures.next c.expected-next.ensures.wanted c.differs-found.ensures
