-- `replay_text::next_call` meets its contract, number by number.
use native.Mathlib.Omega.{arith}
use Rattle.replay_text.proofs.Laws.{asked_is}
use Rattle.replay_text.proofs.next_call.Goals as goal

pub overflow_cast-result : goal.overflow_cast-result
overflow_cast-result c = omega (arith, c.bounded-part.ensures.within)

pub returns : goal.returns
returns c =
    let at_bounded6 = c.bounded-d in
    let at_bounded5 = c.bounded-c in
    let at_bounded4 = c.bounded-b in
    let at_bounded3 = c.bounded-a in
    let at_bounded2 = c.bounded-part in
    let at_bounded = c.bounded-code in record {
      is = asked_is _ _ _ _ _ _ _ _ _ _ at_bounded.ensures.is at_bounded2.ensures.is at_bounded3.ensures.is at_bounded4.ensures.is
          at_bounded5.ensures.is at_bounded6.ensures.is c.bounded-e.ensures.is c.bounded-work.ensures.is;
      within = record {
        a = at_bounded3.ensures.within;
        b = at_bounded4.ensures.within;
        c = at_bounded5.ensures.within;
        d = at_bounded6.ensures.within;
        e = c.bounded-e.ensures.within;
        work = c.bounded-work.ensures.within;
      };
    }
