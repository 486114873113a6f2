-- `replay_lent::load` meets its contract: the lists one after another, each to its array.
use Rattle.replay_lent.proofs.Laws.{loaded_is}
use Rattle.replay_lent.proofs.load.Goals as goal

pub returns : goal.returns
returns c =
    loaded_is _ _ c.args.said.now _ c.args.a.now _ c.args.b.now _ c.args.c.now _ c.args.d.now _ _ _ _ _ _
    c.list-answer.ensures c.list-first.ensures c.list-second.ensures c.list-third.ensures c.list.ensures
