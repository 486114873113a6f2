-- `replay_text::expected` meets its contract: the list in an array of other numbers.
use Rattle.replay_text.proofs.Laws.{expected_is}
use Rattle.replay_text.proofs.expected.Goals as goal

pub returns : goal.returns
returns c =
    let at_fill_lem = c.fill in
    let both = expected_is _ c.args.wanted.now at_fill_lem.new.l _ _ _ at_fill_lem.auto.l at_fill_lem.ensures c.list-l.ensures in
    record { next = both.0; wanted = both.1 }
