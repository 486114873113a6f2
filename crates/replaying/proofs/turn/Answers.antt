-- `replaying::turn` meets its contract: one call made, counted and told.
use Rattle.replaying.proofs.Turns.{call_turn_lem}
use Rattle.replaying.proofs.turn.Goals as goal

pub returns : goal.returns
returns c =
    let at_one = c.one-r in
    call_turn_lem _ _ _ _ _ _ _ _ c.requires at_one.ensures
    c.more_of.ensures c.count_wrong-wrong.ensures.is c.more_of-2.ensures
