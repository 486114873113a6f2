-- `replaying::events` meets its contract: the list that was read, or zeros.
use Rattle.replaying.proofs.Turns.{events_read, events_zeros}
use Rattle.replaying.proofs.events.Goals as goal

pub returns-then-zeros-eq0 : goal.returns-then-zeros-eq0
returns-then-zeros-eq0 c =
    events_read _ _ _ c.args.l.now _ _ c.requires.0 c.list-n.auto.out
    c.list-n.ensures c.if-zeros-eq0.true

pub returns : goal.returns
returns c =
    let at_if1 = c.if-zeros-eq0 in
    let at_list = c.list-n in
    events_zeros _ _ _ c.args.l.now at_list.new.out _ c.requires.0
    at_list.auto.out at_list.ensures _ at_if1.false c.requires.1 c.clear_front.auto.l c.clear_front.ensures
