-- `replay_lent::prepare` meets its contract: other numbers, and at the fronts what is given.
use mathlib.Core.Path.{◌∙◌}
use Rattle.replay_lent.proofs.Laws.{lent_is}
use Rattle.replay_lent.proofs.prepare.Goals as goal

pub give-requires : goal.give-requires
give-requires c =
    let at_fill_lem = c.fill in
    record {
      said_room_lem = c.requires.0.said_room_lem;
      a_room = at_fill_lem.auto.a ∙ c.requires.0.a_room;
      b_room = at_fill_lem.auto.b ∙ c.requires.0.b_room;
      c_room = at_fill_lem.auto.c ∙ c.requires.0.c_room;
      d_room = at_fill_lem.auto.d ∙ c.requires.0.d_room;
    }

pub returns : goal.returns
returns c =
    let at_give = c.give in
    let at_fill_lem = c.fill in
    let full = at_fill_lem.ensures in
    lent_is _ _ _ at_give.new.said _ c.args.a.now _ c.args.b.now _ c.args.c.now _ c.args.d.now _ _ _ _ _
    c.args.e.now _ c.args.work.now _ c.requires.0 c.requires.1 c.requires.2 at_give.auto.said
    c.fill-2.ensures full.0 full.1 full.2 full.3 full.4 full.5 at_give.ensures
